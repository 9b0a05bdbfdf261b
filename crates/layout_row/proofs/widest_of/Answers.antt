use mathlib.Core.Path.{ap, ◌∙◌}
use Prim.Native.Nat.{max}
use Rattle.layout_row.proofs.Walk.{widest_start, widest_next, widest_end}
use Rattle.layout_row.proofs.widest_of.Goals as goal

pub loop_i_init : goal.loop_i_init
loop_i_init c = widest_start _ _ c.none-most.ensures

pub loop_i_preserved : goal.loop_i_preserved
loop_i_preserved c =
    widest_next _ _ c.loop-i.invariant c.loop-i-test.true (c.most-most.ensures ∙ ap (max c.loop-i.most.0) c.size_at.ensures.0)

pub returns : goal.returns
returns c = widest_end _ _ c.loop-i.invariant c.loop-i-test.false
