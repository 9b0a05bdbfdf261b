use Prim.Native.Nat.{◌-◌, ◌/◌, ◌^◌}
use Rattle.layout_bits.specs.Bits.{bits_of}
use Rattle.layout_row.specs.Inner.{Appended}
use Rattle.layout_row.proofs.put_bits.Given as goal

abbrev pub invariant-loop-i : goal.invariant-loop-i
invariant-loop-i l = Appended l.initial.row l.at (bits_of l.i (l.v / 2 ^ (l.n - l.i))) l.row l.end
