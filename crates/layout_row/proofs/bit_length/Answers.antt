use mathlib.Core.Path.{refl}
use native.Mathlib.Omega.{arith}
use lib.Count.{leading_le}
use Rattle.layout_row.proofs.bit_length.Goals as goal

pub overflow_sub_result : goal.overflow_sub_result
overflow_sub_result c = omega (arith, leading_le 32 c.args.x)

pub returns : goal.returns
returns c = refl
