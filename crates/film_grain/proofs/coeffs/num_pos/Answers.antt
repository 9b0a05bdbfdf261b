use mathlib.Core.Path.{refl}
use native.Mathlib.Omega.{arith}
use Rattle.film_grain.proofs.Numbers.{num_pos_lem}
use Rattle.film_grain.proofs.coeffs.num_pos.Goals as goal

pub overflow_mul_result_2 : goal.overflow_mul_result_2
overflow_mul_result_2 c = omega (arith, num_pos_lem c.args.lag c.requires)

pub returns : goal.returns
returns c = (refl, num_pos_lem c.args.lag c.requires)
