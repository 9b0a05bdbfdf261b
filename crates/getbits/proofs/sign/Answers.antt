use mathlib.Core.Path.{◌≡◌, ◌∙◌, ap}
use Prim.Native.Nat.{ℕ, suc, ◌-◌, ◌*◌, ◌^◌, ◌<◌}
use native.Mathlib.Nat.{pow-suc}
use native.Mathlib.Omega.{arith}
use lib.IntN.{negsuc}
use mir.ValLaws.{to_z_pos}
use mir.Syntax.{w32}
use Rattle.getbits.proofs.Callers.{power_below}
use Rattle.getbits.proofs.Widths.{back, sign_below, sign_above}
use Rattle.getbits.proofs.sign.Goals as goal

pub returns-then-v-half : goal.returns-then-v-half
returns-then-v-half c =
    let twice : 2 ^ c.args.n ≡ 2 * c.power-half.result = let n = c.args.n in
    let e : n ≡ suc (n - 1) = omega arith in
    omega (arith, power_below (omega arith) c.power-half.ensures.0, pow-suc 2 (n - 1), ap (λ (x : ℕ). 2 ^ x) e) in
    let a = c.args in
    let h : a.v < 2 ^ 31 = omega arith in
    to_z_pos w32 a.v h ∙ sign_below a.n a.v (omega (arith, twice))

pub overflow_sub_half_2 : goal.overflow_sub_half_2
overflow_sub_half_2 c =
    let twice : 2 ^ c.args.n ≡ 2 * c.power-half.result = let n = c.args.n in
    let e : n ≡ suc (n - 1) = omega arith in
    omega (arith, power_below (omega arith) c.power-half.ensures.0, pow-suc 2 (n - 1), ap (λ (x : ℕ). 2 ^ x) e) in
    omega (arith, twice)

pub returns : goal.returns
returns c =
    let twice : 2 ^ c.args.n ≡ 2 * c.power-half.result = let n = c.args.n in
    let e : n ≡ suc (n - 1) = omega arith in
    omega (arith, power_below (omega arith) c.power-half.ensures.0, pow-suc 2 (n - 1), ap (λ (x : ℕ). 2 ^ x) e) in
    let a = c.args in
    let e = twice in
    back c.below_zero.result c.below_zero.type_inv
    ∙ c.below_zero.ensures
    ∙ ap negsuc (omega arith)
    ∙ sign_above a.n a.v (omega arith) (omega arith)
