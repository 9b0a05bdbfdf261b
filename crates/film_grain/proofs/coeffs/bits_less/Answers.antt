use mathlib.Core.Path.{◌≡◌, sym}
use native.Mathlib.Omega.{arith}
use borrow.Author.Rules.{rules}
use mir.Syntax.{w16}
use mir.Val.{to_z, of_z}
use Rattle.getbits.proofs.Chain.{through}
use Rattle.film_grain.specs.Coeffs.{bits_less}
use Rattle.film_grain.proofs.Numbers.{at_most}
use Rattle.film_grain.proofs.coeffs.bits_less.Goals as goal

-- the number, read back from its bits
back : (c : goal.After-minus) → to_z w16 (of_z w16 c.minus.result) ≡ c.minus.result
back c = search rules

pub minus_requires : goal.minus_requires
minus_requires c =
    (omega (arith, at_most _ _ c.args.n 9 c.requires.0 c.read_bits-r.ensures), c.requires.1)

pub returns : goal.returns
unfolding bits_less
returns c = rw (back c, c.minus.ensures) (sym (through _ _ c.read_bits-r.ensures))
