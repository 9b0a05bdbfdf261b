use mathlib.Core.Path.{◌≡◌}
use Prim.Native.Nat.{◌+◌, ◌-◌, ◌≤◌, ◌<◌}
use Rattle.codes.specs.Codes.{subexp_from}
use Rattle.codes.proofs.subexp.Given as goal

abbrev pub invariant_loop_v : goal.invariant_loop_v
invariant_loop_v l = (l.k + (l.i - 1) < 32) × (l.i ≤ 32) × (l.v < l.n) × (subexp_from (33 - l.i) l.s l.q l.n l.k l.i l.v ≡ subexp_from 33 l.s l.initial.q l.n l.k 0 0)

abbrev pub decreases_loop_v : goal.decreases_loop_v
decreases_loop_v l = 33 - l.i
