use mathlib.Core.Path.{◌≡◌, ap, ◌∙◌}
use Prim.Native.Nat.{ℕ, zero, suc, ◌+◌, ◌-◌, ◌*◌, ◌%◌, ◌^◌, ◌≤◌, ◌<◌}
use native.Mathlib.Omega.{arith}
use Rattle.layout_row.proofs.with_bit.Goals as goal

-- a bit times a number is at most the number
times_low : (b x : ℕ) → b < 2 → b * x ≤ x
times_low zero x h = omega arith
times_low (suc zero) x h = omega arith
times_low (suc (suc b)) x h = absurd (omega arith)

low : (c : goal.After-power) → c.args.bit * c.power.result ≤ 2147483648
low c = omega (arith, times_low c.args.bit c.power.result c.requires.1, c.power.ensures.2)

pub overflow_mul_result : goal.overflow_mul_result
overflow_mul_result c = omega (arith, low c)

pub overflow_add_result : goal.overflow_add_result
overflow_add_result c = omega (arith, low c, c.ranges.byte)

pub returns : goal.returns
returns c =
    let a = c.args in
    let e : (7 - a.k) % 32 ≡ 7 - a.k = omega arith in
    ap (λ (x : ℕ). (a.byte + a.bit * x) % 256) (c.power.ensures.0 ∙ ap (λ (n : ℕ). 2 ^ n) e)
