use mathlib.Core.Path.{◌≡◌}
use native.Mathlib.Omega.{arith}
use borrow.Author.Rules.{rules}
use mir.Syntax.{w8, w16}
use mir.Val.{SFits, to_z, of_z}
use mir.ValLaws.{to_z-of_z}
use Rattle.getbits.proofs.Widths.{difference}
use Rattle.film_grain.proofs.coeffs.centred.Goals as goal

fits : (c : goal.After-minus) → SFits w8 c.minus.result
fits c =
    record { sfits = rw c.minus.ensures (omega (arith, difference c.args.v c.args.half c.args.half (omega (arith, c.requires.0)) (omega arith) (omega (arith, c.requires.0)), c.requires.1)) }

back : (c : goal.After-minus) → to_z w16 (of_z w16 c.minus.result) ≡ c.minus.result
back c = search rules

pub overflow_cast_result : goal.overflow_cast_result
overflow_cast_result c = rw (back c) (fits c)

pub returns : goal.returns
returns c = rw (back c, to_z-of_z w8 _ (fits c)) c.minus.ensures
