use mathlib.Core.Path.{sym, ap, ◌∙◌}
use Prim.Native.Nat.{ℕ, ◌+◌}
use Rattle.getbits.proofs.Chain.{through}
use Rattle.film_grain.specs.Coeffs.{plane_coeffs}
use Rattle.film_grain.proofs.coeffs.plane_coeffs.Goals as goal

pub returns : goal.returns
unfolding plane_coeffs
returns c =
    rw (← c.has_points.ensures, ← c.has_points-2.ensures)
    (sym (through _ _ c.has_points-luma.ensures
    ∙ through _ _ c.num_pos-n.ensures.0
    ∙ through _ _ (ap (λ (k : ℕ). c.num_pos-n.result + k) c.bit.ensures.0)
    ∙ through _ _ c.coeffs_if-y.ensures
    ∙ through _ _ c.coeffs_if-u.ensures
    ∙ through _ _ c.coeffs_if.ensures))
