use native.Mathlib.Omega.{arith}
use lib.IntN.{pos, ◌-ℤ◌}
use mir.Syntax.{w16}
use mir.Val.{SFits}
use mir.ValLaws.{to_z_pos, to_z-of_z}
use Rattle.getbits.proofs.Widths.{difference}
use Rattle.film_grain.proofs.coeffs.minus.Goals as goal

fits : (s : goal.Start) → SFits w16 (pos s.args.v -ℤ pos s.args.less)
fits s =
    let d = difference s.args.v s.args.less 512 (omega (arith, s.requires.0)) (omega (arith, s.requires.1)) (omega arith) in
    record { sfits = omega (arith, d) }

pub overflow_sub_result : goal.overflow_sub_result
overflow_sub_result c =
    simp (to_z_pos w16 c.args.v (omega (arith, c.requires.0)), to_z_pos w16 c.args.less (omega (arith, c.requires.1))) (fits c)

pub returns : goal.returns
returns c =
    simp (to_z_pos w16 c.args.v (omega (arith, c.requires.0)), to_z_pos w16 c.args.less (omega (arith, c.requires.1)), to_z-of_z w16 _ (fits c))
