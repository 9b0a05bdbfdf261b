use mathlib.Core.Path.{◌≡◌}
use Prim.Native.Nat.{◌-◌, ◌≤◌}
use lib.ListN.{length}
use Rattle.getbits.specs.Chain.{turns}
use Rattle.seg_info.specs.Inner.{lent_read}
use Rattle.seg_info.specs.Seg.{segment}
use Rattle.seg_info.proofs.read_segments.Given as goal

abbrev pub invariant_loop_i : goal.invariant_loop_i
invariant_loop_i l = (l.i ≤ l.n) × (length l.delta_q ≡ 16) × (lent_read l.delta_q l.a ≡ turns l.i (segment l.s) (lent_read l.initial.delta_q l.initial.a))

abbrev pub decreases_loop_i : goal.decreases_loop_i
decreases_loop_i l = l.n - l.i
