use Rattle.std.proofs.Common.{◌*◌, take}
use Rattle.text.specs.Put.{Put}
use Rattle.text.specs.Text.{row}
use Rattle.text.proofs.slices.put_row.Given as goal

abbrev pub invariant-loop-i : goal.invariant-loop-i
invariant-loop-i l = Put (21 * l.i) l.initial.out l.at (row (take l.i l.xs)) l.out l.end
