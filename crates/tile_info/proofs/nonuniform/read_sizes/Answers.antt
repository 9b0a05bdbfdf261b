use mathlib.Core.Path.{refl, sym, ◌∙◌}
use borrow.Author.Tests.{ltb-true, ltb-false}
use lib.ListN.{length-set}
use Rattle.flat.proofs.Room.{cleared_front, cleared_rest}
use Rattle.tile_info.proofs.Walk.{walk_start, walk_next, all_done, all_used}
use Rattle.tile_info.proofs.nonuniform.read_sizes.Goals as goal

pub loop_total_init : goal.loop_total_init
loop_total_init c =
    (walk_start _ _ _ _ _ _ _ (cleared_front _ c.args.starts.now c.requires.0 c.clear_starts.ensures) c.none-sbx.ensures c.none-widest_tile.ensures, refl)

pub loop_total_preserved : goal.loop_total_preserved
loop_total_preserved c =
    let l = c.loop-total in (
      walk_next _ _ _ _ _ l.invariant.0 (ltb-true _ _ (sym c.below.ensures ∙ c.loop-total-test.true)) c.if-tiles-lt64.true c.requires.1 c.requires.2
          c.minus.ensures c.read_size-z.ensures.0 c.read_size-z.ensures.1 (rw c.number.ensures refl) c.most-widest_tile.ensures c.plus-sbx.ensures,
      length-set l.starts l.tiles _ ∙ l.invariant.1,
    )

pub returns-else-tiles-lt64 : goal.returns-else-tiles-lt64
returns-else-tiles-lt64 c =
    rw (cleared_rest _ c.args.starts.now c.requires.0 c.clear_starts.ensures) at
    (all_used _ _ _ _ _ _ c.loop-total.invariant.0 c.if-tiles-lt64.false)

pub returns-after-loop-total : goal.returns-after-loop-total
returns-after-loop-total c =
    rw (cleared_rest _ c.args.starts.now c.requires.0 c.clear_starts.ensures) at
    (all_done _ _ _ _ _ _ c.loop-total.invariant.0 (ltb-false _ _ (sym c.below.ensures ∙ c.loop-total-test.false)))
