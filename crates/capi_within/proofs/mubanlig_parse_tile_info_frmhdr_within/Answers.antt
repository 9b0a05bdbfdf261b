use mathlib.Core.Bool.{Bool, true, ◌&&◌}
use mathlib.Core.List.{List}
use mathlib.Core.Path.{◌≡◌, refl, sym, ap, subst, ◌∙◌}
use Prim.Native.Nat.{ℕ}
use mir.Facts.{to_z-of_z}
use Rattle.answers.proofs.Numbers.{accepted_by_0}
use Rattle.answers.specs.declared.Answer.TheVariants.{WrongArguments, ShortBuffer}
use Rattle.getbits.specs.Bits.{settled}
use Rattle.getbits.proofs.Chain.{contrary, through, taken, left, both_hold}
use Rattle.lent.specs.Lent.{place_of}
use Rattle.frame_layout.specs.Frame.{frame_tiles}
use Rattle.frame_layout.specs.declared.FrameHeader.{FrameHeader}
use Rattle.frame_layout.specs.declared.FrameRead.{FrameRead}
use Rattle.frame_layout.specs.declared.SeqLayout.{SeqLayout}
use Rattle.flat.specs.Layout.{Buffers, buffers, has_room}
use Rattle.lent_tiles.specs.Calls.{handed_frame, is_known, frame_given, seq_given, lent_frames, lent_frame}
use Rattle.lent.proofs.Calls.{row, triple, first_fails, second_fails}
use Rattle.lent_tiles.proofs.Left.{frames_short, frame_number, code_kept, frame_kept, cleared_left}
use Rattle.tile_limit.specs.Promises.{FreshAccepted, LimitedFrame}
use Rattle.tile_limit.specs.Within.{wall, parse_tile_info_frmhdr_within}
use Rattle.tile_limit.specs.declared.TileLimit.{TileLimit}
use Rattle.tile_limit.proofs.Limited.{limited_frame}
use Rattle.capi_within.specs.Calls.{limit_given, lent_frame_within}
use Rattle.capi_within.proofs.Left.{limited_left, frames_alike}
use Rattle.capi_within.proofs.mubanlig_parse_tile_info_frmhdr_within.Goals as goal

module _ (s : List ℕ) (position error : ℕ) (b seq : Buffers) (known : Bool) (h : FrameHeader) (q : SeqLayout) (m : TileLimit) where
  -- with the wall's limit the definition is the wall's
  on_wall : m ≡ wall → lent_frame_within s position error b seq known h q m ≡ lent_frame s position error b seq known h q
  on_wall e = frames_alike _ _ s position error h.sb128 b seq known ((limited_frame s (place_of position error) h q m).as_on_wall e)

  -- what the definition says, once the layout is read
  meaning : (r : FrameRead) → has_room b && has_room seq ≡ true → known ≡ true → r ≡ parse_tile_info_frmhdr_within s (place_of position error) h q m
      → lent_frame_within s position error b seq known h q m ≡ handed_frame r error h.sb128 b
  unfolding lent_frames
  meaning r room k e = taken _ _ _ room ∙ taken _ _ _ k ∙ through _ _ e

promised : (s : List ℕ) (position error : ℕ) (h : FrameHeader) (q : SeqLayout) (m : TileLimit) (r : FrameRead)
    → r ≡ parse_tile_info_frmhdr_within s (place_of position error) h q m → LimitedFrame s (place_of position error) h q m r
promised s position error h q m r e = subst (LimitedFrame s (place_of position error) h q m) (sym e) (limited_frame s (place_of position error) h q m)

pub returns-then-not-has_room : goal.returns-then-not-has_room
returns-then-not-has_room c =
    let a = c.args in
    let own = buffers a.info.now a.col_start_sb.now a.row_start_sb.now in
    let theirs = buffers a.seq_info.now a.seq_col_start_sb.now a.seq_row_start_sb.now in
    let h = frame_given a.frame_type a.width a.height a.sb128.now own in
    let q = seq_given a.seq_sb128 a.max_width a.max_height a.level a.tier a.present theirs in
    let fails = first_fails (has_room own) (has_room theirs) (sym c.has_room.ensures ∙ c.if-not-has_room.true) in
    let e = frames_short _ a.s.now a.position.now a.error.now a.sb128.now own theirs (is_known a.frame_type a.present) fails in
    record {
      outcome = e;
      sb128_unchanged = λ _. refl;
      info_unchanged = λ _. refl;
      col_start_sb_unchanged = λ _. refl;
      row_start_sb_unchanged = λ _. refl;
      limited = λ h _. contrary h fails;
      fresh_accepted = λ h. contrary refl (accepted_by_0 ShortBuffer h);
      on_wall = λ w. e ∙ on_wall a.s.now a.position.now a.error.now own theirs (is_known a.frame_type a.present) h q (limit_given a.max_cols a.max_rows) w;
      cleared = λ h. contrary refl (accepted_by_0 ShortBuffer h);
    }

pub returns-then-not-has_room-2 : goal.returns-then-not-has_room-2
returns-then-not-has_room-2 c =
    let a = c.args in
    let own = buffers a.info.now a.col_start_sb.now a.row_start_sb.now in
    let theirs = buffers a.seq_info.now a.seq_col_start_sb.now a.seq_row_start_sb.now in
    let h = frame_given a.frame_type a.width a.height a.sb128.now own in
    let q = seq_given a.seq_sb128 a.max_width a.max_height a.level a.tier a.present theirs in
    let fails = second_fails (has_room own) (has_room theirs) (sym c.has_room-2.ensures ∙ c.if-not-has_room-2.true) in
    let e = frames_short _ a.s.now a.position.now a.error.now a.sb128.now own theirs (is_known a.frame_type a.present) fails in
    record {
      outcome = e;
      sb128_unchanged = λ _. refl;
      info_unchanged = λ _. refl;
      col_start_sb_unchanged = λ _. refl;
      row_start_sb_unchanged = λ _. refl;
      limited = λ h _. contrary h fails;
      fresh_accepted = λ h. contrary refl (accepted_by_0 ShortBuffer h);
      on_wall = λ w. e ∙ on_wall a.s.now a.position.now a.error.now own theirs (is_known a.frame_type a.present) h q (limit_given a.max_cols a.max_rows) w;
      cleared = λ h. contrary refl (accepted_by_0 ShortBuffer h);
    }

pub returns-then-not-is_known : goal.returns-then-not-is_known
unfolding lent_frames
returns-then-not-is_known c =
    let a = c.args in
    let own = buffers a.info.now a.col_start_sb.now a.row_start_sb.now in
    let theirs = buffers a.seq_info.now a.seq_col_start_sb.now a.seq_row_start_sb.now in
    let h = frame_given a.frame_type a.width a.height a.sb128.now own in
    let q = seq_given a.seq_sb128 a.max_width a.max_height a.level a.tier a.present theirs in
    let roomy : has_room own && has_room theirs ≡ true = both_hold (sym c.has_room.ensures ∙ c.if-not-has_room.false) (sym c.has_room-2.ensures ∙ c.if-not-has_room-2.false) in
    let unknown = sym c.is_known.ensures ∙ c.if-not-is_known.true in
    let e = triple (row WrongArguments (settled a.s.now (place_of a.position.now a.error.now)) a.error.now refl c.settle_place.ensures) refl refl
    ∙ sym (taken _ _ _ roomy ∙ left _ _ _ unknown) in
    record {
      outcome = e;
      sb128_unchanged = λ _. refl;
      info_unchanged = λ _. refl;
      col_start_sb_unchanged = λ _. refl;
      row_start_sb_unchanged = λ _. refl;
      limited = λ _ h. contrary h unknown;
      fresh_accepted = λ h. contrary refl (accepted_by_0 WrongArguments h);
      on_wall = λ w. e ∙ on_wall a.s.now a.position.now a.error.now own theirs (is_known a.frame_type a.present) h q (limit_given a.max_cols a.max_rows) w;
      cleared = λ h. contrary refl (accepted_by_0 WrongArguments h);
    }

pub returns : goal.returns
returns c =
    let a = c.args in
    let f = c.ranges in
    -- the buffers lent, the records in them, the place and the limit
    let own = buffers a.info.now a.col_start_sb.now a.row_start_sb.now in
    let theirs = buffers a.seq_info.now a.seq_col_start_sb.now a.seq_row_start_sb.now in
    let h = frame_given a.frame_type a.width a.height a.sb128.now own in
    let q = seq_given a.seq_sb128 a.max_width a.max_height a.level a.tier a.present theirs in
    let place = place_of a.position.now a.error.now in
    let limit = limit_given a.max_cols a.max_rows in
    let own_room : has_room own ≡ true = sym c.has_room.ensures ∙ c.if-not-has_room.false in
    let roomy : has_room own && has_room theirs ≡ true = both_hold own_room (sym c.has_room-2.ensures ∙ c.if-not-has_room-2.false) in
    let known : is_known a.frame_type a.present ≡ true = sym c.is_known.ensures ∙ c.if-not-is_known.false in
    let x = c.frame_layout_within-r.result in
    let read : x ≡ parse_tile_info_frmhdr_within a.s.now place h q limit =
    rw (c.place_of-p.ensures, c.seq_given-seq.ensures, c.frame_given-hdr.ensures, to_z-of_z f.width, to_z-of_z f.height, to_z-of_z f.max_width, to_z-of_z f.max_height) at c.frame_layout_within-r.ensures.value in
    let promise = promised a.s.now a.position.now a.error.now h q limit x read in
    let back = c.hand_back_frame.ensures.outcome in
    let info = c.hand_back_frame.ensures.layout_put own_room in
    let number = frame_number x a.error.now a.sb128.now own back in
    let kept = frame_kept x a.error.now a.sb128.now own back in
    let e = back ∙ sym (meaning a.s.now a.position.now a.error.now own theirs (is_known a.frame_type a.present) h q limit x roomy known read) in
    record {
      outcome = e;
      sb128_unchanged = code_kept x a.error.now a.sb128.now own back;
      info_unchanged = λ n. ap (λ (b : Buffers). b.bytes) (kept n);
      col_start_sb_unchanged = λ n. ap (λ (b : Buffers). b.col_starts) (kept n);
      row_start_sb_unchanged = λ n. ap (λ (b : Buffers). b.row_starts) (kept n);
      limited = λ _ _. limited_left (frame_tiles x) _ _ number info promise.limited;
      fresh_accepted = λ n. let k = accepted_by_0 x.answer (sym number ∙ n) in subst (FreshAccepted a.s.now place h q) (sym (info k)) (promise.accepted k);
      on_wall = λ w. e ∙ on_wall a.s.now a.position.now a.error.now own theirs (is_known a.frame_type a.present) h q limit w;
      cleared = cleared_left (frame_tiles x) _ _ number info promise.over;
    }
