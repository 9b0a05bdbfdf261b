use mathlib.Core.Bool.{true}
use mathlib.Core.Path.{◌≡◌, refl, ap}
use native.Mathlib.Nat.{not-suc-le-zero}
use borrow.Author.Tests.{ltb-true}
use lib.Signed.{lt_z}
use lib.IntN.{ℤ, pos, negsuc}
use mir.Facts.{to_z-of_z}
use Rattle.tile_layout.specs.Limits.{unsigned}
use Rattle.getbits.proofs.Widths.{not_negative, nat_abs_fits}
use Rattle.tile_layout.proofs.not_below_0.Goals as goal

negative : (z : ℤ) → lt_z z (pos 0) ≡ true → 0 ≡ unsigned z
negative (pos n) h = absurd (not-suc-le-zero (ltb-true n 0 h))
negative (negsuc n) h = refl

pub returns-then-x-lt0 : goal.returns-then-x-lt0
returns-then-x-lt0 c =
    negative c.args.x (rw (to_z-of_z c.ranges.x) at c.if-x-lt0.true)

pub overflow_cast_result : goal.overflow_cast_result
overflow_cast_result c =
    let h = rw (to_z-of_z c.ranges.x) at c.if-x-lt0.false in
    rw (to_z-of_z c.ranges.x) ((not_negative c.args.x h).0, nat_abs_fits c.args.x c.ranges.x)

pub returns : goal.returns
returns c =
    let h = rw (to_z-of_z c.ranges.x) at c.if-x-lt0.false in
    rw (to_z-of_z c.ranges.x) (ap unsigned (not_negative c.args.x h).1)
