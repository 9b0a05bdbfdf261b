use mathlib.Core.Path.{◌≡◌, refl, ap}
use Prim.Native.Nat.{ℕ, ◌+◌, ◌*◌, ◌%◌, ◌^◌, ◌≤◌, ◌<◌}
use native.Mathlib.Omega.{arith}
use lib.Count.{leading_le, leading_length}
use lib.Pow.{pow_mono}
use Rattle.getbits.proofs.Fields.{shl_one}
use Rattle.codes.specs.Codes.{bit_length}
use Rattle.codes.proofs.uniform_forms.Goals as goal

module _ (c : goal.Start) where
  abbrev max : ℕ
  max = c.args.max

  power : 1 * 2 ^ bit_length max % 2 ^ 64 ≡ 2 ^ bit_length max
  power = shl_one (bit_length max) 64 (omega arith)

  -- max is below it, but not its half
  near : (max < 2 ^ bit_length max) × (2 ^ bit_length max ≤ 2 * max + 1) × (2 ^ bit_length max ≤ 2 ^ 32)
  near =
      let l = leading_length 32 max c.ranges.max.fits in
      let e : l.0 ≡ bit_length max = omega (arith, l.1) in
      let f = ap (λ (x : ℕ). 2 ^ x) e in
      (omega (arith, l.2, f), omega (arith, l.3, f), pow_mono {j = 32} (omega arith))

pub overflow_sub_bits : goal.overflow_sub_bits
overflow_sub_bits c = leading_le 32 c.args.max

pub overflow_sub_result : goal.overflow_sub_result
overflow_sub_result c = rw (power c) (omega (arith, (near c).0))

pub overflow_cast_result_3 : goal.overflow_cast_result_3
overflow_cast_result_3 c = rw (power c) (omega (arith, (near c).1, (near c).2))

pub returns : goal.returns
returns c = rw (power c) (refl, refl)
