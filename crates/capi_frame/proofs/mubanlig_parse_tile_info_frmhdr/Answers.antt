use mathlib.Core.Bool.{true, ◌&&◌}
use mathlib.Core.Path.{◌≡◌, refl, sym, ap, ◌∙◌}
use mir.Facts.{to_z-of_z}
use Rattle.answers.proofs.Numbers.{accepted_by_0}
use Rattle.answers.specs.declared.Answer.TheVariants.{WrongArguments}
use Rattle.getbits.specs.Bits.{settled}
use Rattle.getbits.proofs.Chain.{through, taken, left, both_hold}
use Rattle.lent.specs.Lent.{place_of}
use Rattle.frame_layout.specs.Frame.{parse_tile_info_frmhdr}
use Rattle.flat.specs.Layout.{Buffers, buffers, has_room}
use Rattle.lent_tiles.specs.Calls.{is_known, frame_given, seq_given, lent_frames}
use Rattle.lent.proofs.Calls.{row, triple, first_fails, second_fails}
use Rattle.lent_tiles.proofs.Left.{frames_short, code_kept, frame_kept, frame-into-handed, demand3_left}
use Rattle.capi_frame.proofs.mubanlig_parse_tile_info_frmhdr.Goals as goal

pub returns-then-not-has_room-clause-outcome : goal.returns-then-not-has_room-clause-outcome
returns-then-not-has_room-clause-outcome c =
    let a = c.args in
    let own = buffers a.info.now a.col_start_sb.now a.row_start_sb.now in
    let theirs = buffers a.seq_info.now a.seq_col_start_sb.now a.seq_row_start_sb.now in
    frames_short _ a.s.now a.position.now a.error.now a.sb128.now own theirs (is_known a.frame_type a.present)
    (first_fails (has_room own) (has_room theirs) (sym c.has_room.ensures ∙ c.if-not-has_room.true))

pub returns-then-not-has_room-2-clause-outcome : goal.returns-then-not-has_room-2-clause-outcome
returns-then-not-has_room-2-clause-outcome c =
    let a = c.args in
    let own = buffers a.info.now a.col_start_sb.now a.row_start_sb.now in
    let theirs = buffers a.seq_info.now a.seq_col_start_sb.now a.seq_row_start_sb.now in
    frames_short _ a.s.now a.position.now a.error.now a.sb128.now own theirs (is_known a.frame_type a.present)
    (second_fails (has_room own) (has_room theirs) (sym c.has_room-2.ensures ∙ c.if-not-has_room-2.true))

pub returns-then-not-is_known-clause-outcome : goal.returns-then-not-is_known-clause-outcome
unfolding lent_frames
returns-then-not-is_known-clause-outcome c =
    let a = c.args in
    let own = buffers a.info.now a.col_start_sb.now a.row_start_sb.now in
    let theirs = buffers a.seq_info.now a.seq_col_start_sb.now a.seq_row_start_sb.now in
    let roomy : has_room own && has_room theirs ≡ true = both_hold (sym c.has_room.ensures ∙ c.if-not-has_room.false) (sym c.has_room-2.ensures ∙ c.if-not-has_room-2.false) in
    triple (row WrongArguments (settled a.s.now (place_of a.position.now a.error.now)) a.error.now refl c.settle_place.ensures) refl refl
    ∙ sym (taken _ _ _ roomy ∙ left _ _ _ (sym c.is_known.ensures ∙ c.if-not-is_known.true))

pub returns : goal.returns
unfolding lent_frames
returns c =
    let a = c.args in
    let f = c.ranges in
    -- the buffers lent, the records in them, and the place
    let own = buffers a.info.now a.col_start_sb.now a.row_start_sb.now in
    let theirs = buffers a.seq_info.now a.seq_col_start_sb.now a.seq_row_start_sb.now in
    let h = frame_given a.frame_type a.width a.height a.sb128.now own in
    let q = seq_given a.seq_sb128 a.max_width a.max_height a.level a.tier a.present theirs in
    let place = place_of a.position.now a.error.now in
    let roomy : has_room own && has_room theirs ≡ true = both_hold (sym c.has_room.ensures ∙ c.if-not-has_room.false) (sym c.has_room-2.ensures ∙ c.if-not-has_room-2.false) in
    let known = sym c.is_known.ensures ∙ c.if-not-is_known.false in
    let sized = rw (to_z-of_z f.width, to_z-of_z f.height, to_z-of_z f.max_width, to_z-of_z f.max_height) at c.frame_layout_into-r.ensures.outcome in
    let into = rw (c.place_of-p.ensures, c.frame_type_of.ensures, c.present_of.ensures) at sized in
    let promised_sized = rw (to_z-of_z f.width, to_z-of_z f.height, to_z-of_z f.max_width, to_z-of_z f.max_height) at (c.frame_layout_into-r.ensures.frame_layout roomy) in
    let promised = rw (c.place_of-p.ensures, c.frame_type_of.ensures, c.present_of.ensures) at promised_sized in
    let z = parse_tile_info_frmhdr a.s.now place h q in
    let back = frame-into-handed a.s.now place h q own theirs roomy into a.error.now c.number.ensures c.put_place.ensures in
    let kept = frame_kept z a.error.now a.sb128.now own back in
    record {
      outcome = back ∙ sym (taken _ _ _ roomy ∙ taken _ _ _ known ∙ through _ _ refl);
      sb128_unchanged = code_kept z a.error.now a.sb128.now own back;
      info_unchanged = λ n. ap (λ (b : Buffers). b.bytes) (kept n);
      col_start_sb_unchanged = λ n. ap (λ (b : Buffers). b.col_starts) (kept n);
      row_start_sb_unchanged = λ n. ap (λ (b : Buffers). b.row_starts) (kept n);
      frame_layout = λ _ _ d e. demand3_left _ _ _ c.number.ensures (λ _. refl) (promised.fresh d e);
      cleared = λ n. promised.over.cleared (accepted_by_0 c.frame_layout_into-r.result.answer (sym c.number.ensures ∙ n));
    }
