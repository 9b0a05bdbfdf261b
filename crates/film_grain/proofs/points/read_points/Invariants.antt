use mathlib.Core.Bool.{false}
use mathlib.Core.List.{List}
use mathlib.Core.Path.{◌≡◌}
use Prim.Native.Nat.{ℕ, ◌-◌, ◌≤◌}
use lib.ListN.{length}
use Rattle.getbits.specs.Chain.{turns}
use Rattle.getbits.specs.declared.Place.{Place}
use Rattle.film_grain.specs.Points.{PointsRead, no_points, point}
use Rattle.film_grain.proofs.points.read_points.Given as goal

-- the points so far
abbrev pub seen : ℕ → ℕ → List ℕ → Place → PointsRead
seen n base points next = record { refused = false; num_points = n; base = base; list = record { points = points }; next = next }

abbrev pub invariant_loop_i : goal.invariant_loop_i
invariant_loop_i l =
    (l.i ≤ l.i-end) × (l.base ≤ 255) × (length l.points ≡ 28) × (seen l.n l.base l.points l.next ≡ turns l.i (point l.s l.index_bits l.scaling_bits) (no_points l.n false l.initial.next))

abbrev pub decreases_loop_i : goal.decreases_loop_i
decreases_loop_i l = l.i-end - l.i
