use mathlib.Core.List.{List}
use mathlib.Core.Path.{◌≡◌, refl, ◌∙◌, sym, ap}
use Prim.Native.Nat.{ℕ, suc, ◌+◌, ◌-◌, ◌*◌, ◌^◌, ◌≤◌, ◌<◌}
use native.Mathlib.Nat.{mul_assoc, mul_comm, mul-add, mul-le-mul_left, mul-le-mul_right}
use native.Mathlib.Omega.{arith}
use borrow.Author.Tests.{lt-ltb, le-ltb}
use lib.Pow.{pow_pos, pow-add}
use lib.IntN.{pos}
use Rattle.codes.specs.Codes.{uleb_from}
use Rattle.getbits.proofs.Callers.{as_read, read_lt}
use Rattle.getbits.proofs.Chain.{through, taken, left}
use Rattle.getbits.specs.declared.Read.{Read}
use Rattle.getbits.specs.declared.Place.{Place}
use Rattle.getbits.specs.Bits.{get_bits}
use Rattle.codes.proofs.groups.Goals as goal
use Rattle.codes.proofs.groups.Goals.{After-read_bits-b}

module _ (t : ℕ) (s : List ℕ) (q : Place) (b : Read ℕ) (e : b ≡ get_bits s q (pos 8)) where
  uleb_last : b.value < 128 → uleb_from (suc t) s q ≡ b
  unfolding uleb_from
  uleb_last h = through _ _ (as_read s q 8 (omega arith) e) ∙ taken _ _ _ (lt-ltb b.value 128 h)

  uleb_more : 128 ≤ b.value → (let rest = uleb_from t s b.next in uleb_from (suc t) s q ≡ record { value = b.value - 128 + 128 * rest.value; next = rest.next })
  unfolding uleb_from
  uleb_more h = through _ _ (as_read s q 8 (omega arith) e) ∙ left _ _ _ (le-ltb b.value 128 h) ∙ through _ _ refl

  byte_lt : b.value < 256
  byte_lt = rw (as_read s q 8 (omega arith) e) (read_lt s q 8)

uleb_none : (s : List ℕ) (q : Place) → uleb_from 0 s q ≡ record { value = 0; next = q }
unfolding uleb_from
uleb_none s q = refl

spread : (v x w r : ℕ) → v + x * w + w * 128 * r ≡ v + w * (x + 128 * r)
spread v x w r = let e = mul-add w x (128 * r) in omega (arith, e, mul_comm x w, mul_assoc w 128 r)

-- seven bits more weigh 128 times as much, and there is room for them
module _ (w t : ℕ) (e : w * 2 ^ (7 * suc t) ≡ 2 ^ 56) where
  heavier : w * 128 * 2 ^ (7 * t) ≡ 2 ^ 56
  heavier =
      let f : 7 * suc t ≡ 7 + 7 * t = omega arith in
      mul_assoc w 128 (2 ^ (7 * t)) ∙ ap (λ (x : ℕ). w * x) (sym (pow-add 2 7 (7 * t)) ∙ ap (λ (x : ℕ). 2 ^ x) (sym f)) ∙ e

  room : w * 128 ≤ 2 ^ 56
  room = let h = mul-le-mul_left (w * 128) (pow_pos (7 * t)) in omega (arith, heavier, h)

-- a byte is read, and `left` bytes could still be
module _ (k : After-read_bits-b) where
  abbrev s : List ℕ
  s = k.args.s.now

  abbrev byte : Read ℕ
  byte = k.read_bits-b.result

  some : (8 - k.loop.counter) ≡ suc (8 - k.loop.counter - 1)
  some = omega (arith, k)

  weighs : k.loop.weight * 2 ^ (7 * suc (8 - k.loop.counter - 1)) ≡ 2 ^ 56
  weighs = rw (← some) k.loop.invariant.2

  -- seven bits are less than the next weight
  under : (x : ℕ) → x < 128 → k.loop.val + x * k.loop.weight < k.loop.weight * 128
  under x h = omega (arith, mul-le-mul_right {m = x} {n = 127} k.loop.weight (omega arith), k.loop.invariant.1)

  byte_small : byte.value < 256
  byte_small = byte_lt 0 s k.loop.q byte k.read_bits-b.ensures

  fits : k.loop.weight * 128 ≤ 2 ^ 56
  fits = room k.loop.weight (8 - k.loop.counter - 1) weighs

pub loop-init : goal.loop-init
loop-init c = (omega arith, omega arith, refl, omega arith, refl)

pub overflow_mul-result : goal.overflow_mul-result
overflow_mul-result c = omega (arith, under (goal.at.overflow_mul-result c).After-read_bits-b (byte (goal.at.overflow_mul-result c).After-read_bits-b).value (omega arith), fits (goal.at.overflow_mul-result c).After-read_bits-b)

pub overflow_add-result : goal.overflow_add-result
overflow_add-result c = omega (arith, under (goal.at.overflow_add-result c).After-read_bits-b (byte (goal.at.overflow_add-result c).After-read_bits-b).value (omega arith), fits (goal.at.overflow_add-result c).After-read_bits-b)

pub returns-then-v-lt128 : goal.returns-then-v-lt128
returns-then-v-lt128 c =
    let l = c.loop in
    let e : uleb_from (8 - l.counter) (s (goal.at.returns-then-v-lt128 c).After-read_bits-b) l.q ≡ byte (goal.at.returns-then-v-lt128 c).After-read_bits-b =
    ap (λ (n : ℕ). uleb_from n (s (goal.at.returns-then-v-lt128 c).After-read_bits-b) l.q) (some (goal.at.returns-then-v-lt128 c).After-read_bits-b) ∙ uleb_last (8 - l.counter - 1) (s (goal.at.returns-then-v-lt128 c).After-read_bits-b) l.q (byte (goal.at.returns-then-v-lt128 c).After-read_bits-b) c.read_bits-b.ensures c.if-v-lt128.true in (
      ap (λ (x : ℕ). l.val + x) (mul_comm (byte (goal.at.returns-then-v-lt128 c).After-read_bits-b).value l.weight ∙ ap (λ (r : Read ℕ). l.weight * r.value) (sym e)) ∙ l.invariant.3,
      ap (λ (r : Read ℕ). r.next) (sym e) ∙ l.invariant.4,
    )

pub overflow_mul-val : goal.overflow_mul-val
overflow_mul-val c = omega (arith, under (goal.at.overflow_mul-val c).After-read_bits-b ((byte (goal.at.overflow_mul-val c).After-read_bits-b).value - 128) (omega (arith, byte_small (goal.at.overflow_mul-val c).After-read_bits-b)), fits (goal.at.overflow_mul-val c).After-read_bits-b)

pub overflow_add-val : goal.overflow_add-val
overflow_add-val c = omega (arith, under (goal.at.overflow_add-val c).After-read_bits-b ((byte (goal.at.overflow_add-val c).After-read_bits-b).value - 128) (omega (arith, byte_small (goal.at.overflow_add-val c).After-read_bits-b)), fits (goal.at.overflow_add-val c).After-read_bits-b)

pub overflow_mul-weight : goal.overflow_mul-weight
overflow_mul-weight c = omega (arith, fits (goal.at.overflow_mul-weight c).After-read_bits-b)

pub loop-preserved : goal.loop-preserved
loop-preserved c =
    let l = c.loop in
    let one : 8 - (l.counter + 1) ≡ 8 - l.counter - 1 = omega arith in
    let rest : Read ℕ = uleb_from (8 - l.counter - 1) (s (goal.at.loop-preserved c).After-read_bits-b) (byte (goal.at.loop-preserved c).After-read_bits-b).next in
    let e : uleb_from (8 - l.counter) (s (goal.at.loop-preserved c).After-read_bits-b) l.q ≡ record { value = (byte (goal.at.loop-preserved c).After-read_bits-b).value - 128 + 128 * rest.value; next = rest.next } =
    ap (λ (n : ℕ). uleb_from n (s (goal.at.loop-preserved c).After-read_bits-b) l.q) (some (goal.at.loop-preserved c).After-read_bits-b) ∙ uleb_more (8 - l.counter - 1) (s (goal.at.loop-preserved c).After-read_bits-b) l.q (byte (goal.at.loop-preserved c).After-read_bits-b) c.read_bits-b.ensures c.if-v-lt128.false in
    rw one (
      omega arith,
      under (goal.at.loop-preserved c).After-read_bits-b ((byte (goal.at.loop-preserved c).After-read_bits-b).value - 128) (omega (arith, byte_small (goal.at.loop-preserved c).After-read_bits-b)),
      heavier l.weight (8 - l.counter - 1) (weighs (goal.at.loop-preserved c).After-read_bits-b),
      spread l.val ((byte (goal.at.loop-preserved c).After-read_bits-b).value - 128) l.weight rest.value ∙ ap (λ (r : Read ℕ). l.val + l.weight * r.value) (sym e) ∙ l.invariant.3,
      ap (λ (r : Read ℕ). r.next) (sym e) ∙ l.invariant.4,
    )

pub returns : goal.returns
returns c =
    let l = c.loop in
    let s = c.args.s.now in
    let e : uleb_from (8 - l.counter) s l.q ≡ record { value = 0; next = l.q } = ap (λ (n : ℕ). uleb_from n s l.q) (omega arith) ∙ uleb_none s l.q in (
      omega (arith, ap (λ (r : Read ℕ). l.weight * r.value) e, l.invariant.3),
      ap (λ (r : Read ℕ). r.next) (sym e) ∙ l.invariant.4,
    )
