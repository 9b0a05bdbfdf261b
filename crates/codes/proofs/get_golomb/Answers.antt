use mathlib.Core.Path.{◌≡◌, ◌∙◌, sym, ap}
use Prim.Native.Nat.{ℕ, zero, suc, ◌+◌, ◌-◌, ◌*◌, ◌^◌, ◌≤◌, ◌<◌}
use native.Mathlib.Nat.{pow-suc, add-mul, mul-le-mul_right}
use native.Mathlib.Omega.{arith}
use borrow.Author.Tests.{le-leb, lt-leb, eq-eqb, ne_eqb}
use borrow.Author.Rules.{rules}
use lib.Pow.{pow-add}
use Rattle.codes.proofs.Runs.{run_le}
use Rattle.codes.specs.Codes.{plus, get_golomb}
use Rattle.getbits.proofs.Callers.{as_read, read_lt, power_below}
use Rattle.getbits.proofs.Chain.{through, taken, left}
use Rattle.getbits.specs.declared.Read.{Read}
use Rattle.getbits.specs.Bits.{read_bits}
use Rattle.codes.proofs.get_golomb.Goals as goal
use Rattle.codes.proofs.get_golomb.Goals.{After-run-c, After-power}

below_power : (n : ℕ) → n < 2 ^ n
below_power zero = omega arith
below_power (suc n) = omega (arith, below_power n, pow-suc 2 n)

-- c ones and k bits, where fewer than 32 - k ones are there
golomb_lt : (c k : ℕ) → c + k < 32 → c * 2 ^ k + 2 ^ k ≤ 2 ^ 32
golomb_lt c k h =
    let e : 32 - k + k ≡ 32 = omega arith in
    let f = mul-le-mul_right {m = c + 1} {n = 2 ^ (32 - k)} (2 ^ k) (omega (arith, below_power (32 - k))) in
    omega (arith, f, sym (pow-add 2 (32 - k) k) ∙ ap (λ (x : ℕ). 2 ^ x) e, add-mul c 1 (2 ^ k))

ones : (r : After-run-c) → (let a = r.args in r.run-c.result.value ≤ 32 - a.k)
ones r =
    let a = r.args in
    omega (arith, run_le 1 (32 - a.k) a.s.now a.p, ap (λ (x : Read ℕ). x.value) r.run-c.ensures)

module _ (k : After-power) where
  abbrev width : ℕ
  width = k.args.k

  rest : k.read_bits-r.result ≡ read_bits k.args.s.now k.run-c.result.next width
  rest = as_read _ _ width (omega (arith, k)) k.read_bits-r.ensures

  twos : k.power.result ≡ 2 ^ width
  twos = power_below (omega (arith, k)) k.power.ensures.0

  rest_lt : k.read_bits-r.result.value < k.power.result
  rest_lt = omega (arith, read_lt k.args.s.now k.run-c.result.next width, ap (λ (x : Read ℕ). x.value) rest, twos)

  bounded : k.run-c.result.value * k.power.result + k.power.result ≤ 2 ^ 32
  bounded =
      omega (arith, golomb_lt k.run-c.result.value width (omega (arith, run_le 1 (32 - width) k.args.s.now k.args.p, ap (λ (x : Read ℕ). x.value) k.run-c.ensures, k.if-bits-k-eq32.false)), twos, ap (λ (x : ℕ). k.run-c.result.value * x) twos)

pub returns-then-k-ge32 : goal.returns-then-k-ge32
unfolding get_golomb
returns-then-k-ge32 c =
    let a = c.args in
    c.refuse.ensures ∙ sym (taken _ _ _ (le-leb 32 a.k (search rules)))

pub overflow_add-bits : goal.overflow_add-bits
overflow_add-bits c = omega (arith, ones (goal.at.overflow_add-bits c).After-run-c)

pub returns-then-bits-k-eq32 : goal.returns-then-bits-k-eq32
unfolding get_golomb
returns-then-bits-k-eq32 c =
    let a = c.args in
    sym (left _ _ _ (lt-leb 32 a.k (omega arith)) ∙ through _ _ c.run-c.ensures ∙ taken _ _ _ (eq-eqb (c.run-c.result.value + a.k) 32 c.if-bits-k-eq32.true))

pub overflow_mul-result : goal.overflow_mul-result
overflow_mul-result c = omega (arith, bounded (goal.at.overflow_mul-result c).After-power)

pub overflow_add-result : goal.overflow_add-result
overflow_add-result c =
    omega (arith, bounded (goal.at.overflow_add-result c).After-power, rest_lt (goal.at.overflow_add-result c).After-power)

pub returns : goal.returns
unfolding get_golomb
returns c =
    let a = c.args in
    sym (left _ _ _ (lt-leb 32 a.k (omega (arith, c)))
    ∙ through _ _ c.run-c.ensures
    ∙ left _ _ _ (ne_eqb (c.run-c.result.value + a.k) 32 c.if-bits-k-eq32.false)
    ∙ ap (plus (c.run-c.result.value * 2 ^ a.k)) (sym (rest (goal.at.returns c).After-power))
    ∙ ap (λ (x : ℕ). plus (c.run-c.result.value * x) c.read_bits-r.result) (sym (twos (goal.at.returns c).After-power)))
