use Rattle.layout_row.specs.Inner.{size_at}
use Rattle.layout_row.proofs.Walk.{Going}
use Rattle.layout_row.proofs.put_sizes.Given as goal

abbrev pub invariant-loop-i : goal.invariant-loop-i
invariant-loop-i l = Going (size_at l.starts) l.initial.rest.0 l.bounds.limit.0 l.tiles l.initial.row l.at l.row l.end l.rest.0 l.i
