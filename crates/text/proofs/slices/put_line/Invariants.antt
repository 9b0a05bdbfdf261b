use Rattle.std.proofs.Common.{◌*◌, take}
use Rattle.text.specs.Put.{Put}
use Rattle.text.specs.Text.{nexts}
use Rattle.text.proofs.slices.put_line.Given as goal

abbrev pub invariant-loop-x : goal.invariant-loop-x
invariant-loop-x l = Put (21 * l.x-index) l.initial.out l.initial.next (nexts (take l.x-index l.xs)) l.out l.next
