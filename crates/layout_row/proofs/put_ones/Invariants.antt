use Rattle.layout_row.specs.Inner.{Appended}
use Rattle.layout_row.proofs.Append.{ones}
use Rattle.layout_row.proofs.put_ones.Given as goal

abbrev pub invariant-loop-i : goal.invariant-loop-i
invariant-loop-i l = Appended l.initial.row l.at (ones l._i) l.row l.end
