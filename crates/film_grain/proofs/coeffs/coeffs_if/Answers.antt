use mathlib.Core.Path.{refl, sym, ◌∙◌}
use Rattle.getbits.proofs.Chain.{through}
use Rattle.film_grain.specs.Coeffs.{coeffs_if}
use Rattle.film_grain.proofs.coeffs.coeffs_if.Goals as goal

pub returns-then-cond : goal.returns-then-cond
unfolding coeffs_if
returns-then-cond c =
    rw c.if-cond.true (sym (through _ _ c.get_small-b.ensures.is ∙ sym c.read_coeffs.ensures))

pub returns : goal.returns
unfolding coeffs_if
returns c = rw (c.if-cond.false, c.requires.1) refl
