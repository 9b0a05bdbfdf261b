use mathlib.Core.Path.{◌≡◌}
use Prim.Native.Nat.{◌-◌, ◌≤◌}
use lib.ListN.{length}
use Rattle.getbits.specs.Chain.{turns}
use Rattle.film_grain.specs.Coeffs.{no_coeffs, coeff}
use Rattle.film_grain.specs.Inner.{lent_coeffs}
use Rattle.film_grain.proofs.coeffs.read_coeffs.Given as goal

abbrev pub invariant_loop_i : goal.invariant_loop_i
invariant_loop_i l = (l.i ≤ l.n) × (length l.coeffs ≡ 28) × (lent_coeffs l.coeffs l.next ≡ turns l.i (coeff l.s l.coef_bits) (no_coeffs l.initial.next))

abbrev pub decreases_loop_i : goal.decreases_loop_i
decreases_loop_i l = l.n - l.i
