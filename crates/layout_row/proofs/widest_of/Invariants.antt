use Rattle.layout_row.specs.Inner.{size_at}
use Rattle.layout_row.proofs.Walk.{Widest}
use Rattle.layout_row.proofs.widest_of.Given as goal

abbrev pub invariant-loop-i : goal.invariant-loop-i
invariant-loop-i l = Widest (size_at l.starts) l.tiles l.most.0 l.i
