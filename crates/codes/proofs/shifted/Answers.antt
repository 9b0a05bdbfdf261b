use Prim.Native.Nat.{◌^◌, ◌<◌}
use native.Mathlib.Omega.{arith}
use lib.IntN.{pos, ◌+ℤ◌}
use mir.Facts.{to_z-of_z}
use mir.ValLaws.{to_z_pos}
use mir.Val.{SFits}
use mir.Syntax.{w64}
use Rattle.codes.proofs.Integers.{add_mag, widened, through_64}
use Rattle.codes.proofs.shifted.Goals as goal

small : (c : goal.Start) → c.args.off < 2 ^ 63
small c = omega arith

sum_fits : (c : goal.Start) → SFits w64 (c.args.ref_val +ℤ pos c.args.off)
sum_fits c = record { sfits = omega (arith, add_mag c.args.ref_val c.args.off, c.ranges.ref_val.sfits) }

pub overflow_cast_result : goal.overflow_cast_result
overflow_cast_result c = rw (to_z-of_z c.ranges.ref_val) (widened c.args.ref_val c.ranges.ref_val)

pub overflow_add_result : goal.overflow_add_result
overflow_add_result c = rw (through_64 c.args.ref_val c.ranges.ref_val, to_z_pos w64 c.args.off (small c)) (sum_fits c)

pub returns : goal.returns
returns c = rw (through_64 c.args.ref_val c.ranges.ref_val, to_z_pos w64 c.args.off (small c)) (to_z-of_z (sum_fits c))
