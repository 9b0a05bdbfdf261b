use mathlib.Core.Path.{refl, sym, ap, ◌∙◌}
use mir.Facts.{to_z-of_z}
use Rattle.answers.proofs.Numbers.{accepted_by_0}
use Rattle.tile_layout.specs.Limits.{args_of}
use Rattle.flat.specs.Layout.{Buffers, buffers}
use Rattle.lent_tiles.proofs.Left.{tiles_short, lent_kept, into_handed, demand3_left}
use Rattle.capi_tiles.proofs.mubanlig_parse_tile_info.Goals as goal

pub returns-then-not-has_room-clause-outcome : goal.returns-then-not-has_room-clause-outcome
returns-then-not-has_room-clause-outcome c =
    let a = c.args in
    tiles_short _ a.position.now a.error.now (buffers a.info.now a.col_start_sb.now a.row_start_sb.now) (sym c.has_room.ensures ∙ c.if-not-has_room.true)

pub returns : goal.returns
returns c =
    let a = c.args in
    let f = c.ranges in
    -- the buffers lent, and the arguments
    let b = buffers a.info.now a.col_start_sb.now a.row_start_sb.now in
    let asked = args_of a.sbmul a.sb128 a.seq_sb128 a.w a.h a.level a.tier in
    let room = sym c.has_room.ensures ∙ c.if-not-has_room.false in
    let into = rw (to_z-of_z f.sbmul, to_z-of_z f.w, to_z-of_z f.h, c.place_of-p.ensures) at c.parse_tile_info_into-r.ensures.outcome in
    let demand = rw (to_z-of_z f.sbmul, to_z-of_z f.w, to_z-of_z f.h, c.place_of-p.ensures) at c.parse_tile_info_into-r.ensures.demand3 in
    let over = c.parse_tile_info_into-r.ensures.read_over in
    let number = c.number.ensures in
    let back = into_handed a.s.now a.position.now a.error.now asked b room into number c.put_place.ensures in
    let kept = lent_kept _ a.position.now a.error.now b back in
    record {
      outcome = back;
      info_unchanged = λ n. ap (λ (b : Buffers). b.bytes) (kept n);
      col_start_sb_unchanged = λ n. ap (λ (b : Buffers). b.col_starts) (kept n);
      row_start_sb_unchanged = λ n. ap (λ (b : Buffers). b.row_starts) (kept n);
      demand3 = λ has d. demand3_left _ _ _ number (λ _. refl) (demand has d);
      cleared = λ n. over.cleared (accepted_by_0 c.parse_tile_info_into-r.result.answer (sym number ∙ n));
    }
