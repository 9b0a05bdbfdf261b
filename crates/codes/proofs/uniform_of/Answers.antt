use mathlib.Core.Logic.{⊎_elim}
use mathlib.Core.List.{List}
use mathlib.Core.Path.{◌≡◌, refl, ◌∙◌, sym, ap}
use Prim.Native.Nat.{ℕ, ◌+◌, ◌-◌, ◌*◌, ◌/◌, ◌^◌, ◌≤◌, ◌<◌}
use native.Mathlib.Nat.{div-le_self, lt_of_le_of_lt}
use native.Mathlib.Omega.{arith}
use borrow.Author.Tests.{lt-ltb, le-ltb, le-leb}
use lib.Count.{count_leading_zeros}
use lib.Dec.{ltb}
use Rattle.codes.specs.Codes.{bit_length, get_uniform}
use Rattle.codes.proofs.Callers.{length_at, uniform_more}
use Rattle.getbits.proofs.Callers.{read_none, read_more, bit_lt}
use Rattle.getbits.proofs.Chain.{through, taken, left}
use Rattle.getbits.proofs.Fields.{bits_top}
use Rattle.getbits.proofs.Places.{lt_or_le}
use Rattle.getbits.specs.Bits.{bits_at, bit_count, position, read_bits, look_at, get_bit}
use Rattle.getbits.specs.Chain.{pick, then}
use Rattle.getbits.specs.declared.Read.{Read}
use Rattle.getbits.specs.declared.Place.{Place}
use Rattle.codes.proofs.uniform_of.Goals as goal

-- l is the bit length of max, m counts the shorter form's numbers, and x is the first l bits of a word that are all there
module _ (s : List ℕ) (p : Place) (word max l m : ℕ) (el : l ≡ bit_length max) (em : m ≡ 2 ^ bit_length max - max)
    (looked : word ≡ look_at s p 32) (there : position s p + 32 ≤ bit_count s) (some : 2 ≤ max) (low : max < 2 ^ 31) where
  is : (1 ≤ l) × (l < 32) × (max < 2 ^ l) × (2 ^ (l - 1) ≤ max)
  is = length_at max l el (omega arith) low

  abbrev x : ℕ
  x = word / 2 ^ (32 - l)

  abbrev most : Read ℕ
  most = read_bits s p (l - 1)

  abbrev last : Read ℕ
  last = get_bit s most.next

  bits : x ≡ bits_at s (position s p) l
  unfolding look_at
  bits =
      let e : l + (32 - l) ≡ 32 = omega (arith, is.1) in
      ap (λ (w : ℕ). w / 2 ^ (32 - l)) looked ∙ rw e at (bits_top s (position s p) l (32 - l))

  more : (x ≡ 2 * most.value + last.value) × ((read_bits s p l).next ≡ last.next)
  more =
      let e : l - 1 + 1 ≡ l = omega (arith, is.0) in
      let h = rw e at (read_more s p (l - 1) (omega (arith, is.1))) in
      (bits ∙ h.0, h.1)

  half : x / 2 ≡ most.value
  half = omega (arith, more.0, bit_lt s most.next)

  behind : get_uniform s p max ≡ pick (ltb most.value m) most (then last λ b. record { value = 2 * most.value - m + b.value; next = b.next })
  behind = uniform_more s p max l m el em some low ∙ through _ _ refl

  short : x / 2 < m → (x / 2 ≡ (get_uniform s p max).value) × ((read_bits s p (l - 1)).next ≡ (get_uniform s p max).next)
  short h =
      let e = behind ∙ taken _ _ _ (lt-ltb most.value m (omega (arith, half))) in
      (half ∙ sym (ap (λ (r : Read ℕ). r.value) e), sym (ap (λ (r : Read ℕ). r.next) e))

  long : m ≤ x / 2 → (x - m ≡ (get_uniform s p max).value) × ((read_bits s p l).next ≡ (get_uniform s p max).next)
  long h =
      let e = behind ∙ left _ _ _ (le-ltb most.value m (omega (arith, half))) ∙ through _ _ refl in
      (omega (arith, more.0, half) ∙ sym (ap (λ (r : Read ℕ). r.value) e), more.1 ∙ sym (ap (λ (r : Read ℕ). r.next) e))

-- one number alone takes no bit
one : (s : List ℕ) (p : Place) (max : ℕ) → max ≤ 1 → (0 ≡ (get_uniform s p max).value) × ((read_bits s p 0).next ≡ (get_uniform s p max).next)
unfolding get_uniform
one s p max h =
    let e = taken _ _ _ (le-leb max 1 h) in
    (sym (ap (λ (r : Read ℕ). r.value) e), ap (λ (r : Read ℕ). r.next) (read_none s p) ∙ sym (ap (λ (r : Read ℕ). r.next) e))

one_bit : bit_length 1 ≡ 1
unfolding count_leading_zeros
one_bit = refl

pub overflow_sub-w : goal.overflow_sub-w
overflow_sub-w c = omega (arith, c.uniform_forms-f.ensures.0)

pub overflow_shr-w : goal.overflow_shr-w
overflow_shr-w c = omega arith

-- the first bits of the word fit again
pub overflow_cast-w-3 : goal.overflow_cast-w-3
overflow_cast-w-3 c = record { fits = lt_of_le_of_lt (div-le_self c.args.word (2 ^ (32 - c.uniform_forms-f.result.bits))) c.ranges.word.fits }

pub returns-then-w-f : goal.returns-then-w-f
returns-then-w-f c =
    let a = c.args in
    let e = c.uniform_forms-f.ensures in
    let l = c.uniform_forms-f.result.bits in
    record {
      reads = λ s p looked there some low.
          ⊎_elim
          (λ none.
          let z : a.max ≡ 1 = omega arith in
          let b : l ≡ 1 = e.0 ∙ ap bit_length z ∙ one_bit in
          let m : c.uniform_forms-f.result.short ≡ 1 = e.1 ∙ ap (λ (n : ℕ). 2 ^ bit_length n - n) z ∙ ap (λ (n : ℕ). 2 ^ n - 1) one_bit in
          let r = one s p a.max (omega arith) in
          let v : a.word / 2 ^ (32 - l) / 2 ≡ 0 = omega (arith, m, c.if-w-f.true) in
          let u : c.saturating_sub.result ≡ 0 = omega (arith, c.saturating_sub.ensures, b) in
          (v ∙ r.0, ap (λ (n : ℕ). (read_bits s p n).next) u ∙ r.1))
          (λ more.
          let r = short s p a.word a.max l c.uniform_forms-f.result.short e.0 e.1 looked there more low c.if-w-f.true in
          (r.0, ap (λ (n : ℕ). (read_bits s p n).next) c.saturating_sub.ensures ∙ r.1))
          (lt_or_le a.max 2);
      most = omega (arith, c.saturating_sub.ensures, e.0);
    }

pub overflow_sub-result : goal.overflow_sub-result
overflow_sub-result c = omega (arith, c.if-w-f.false)

pub returns : goal.returns
returns c =
    let a = c.args in
    let e = c.uniform_forms-f.ensures in
    let l = c.uniform_forms-f.result.bits in
    record {
      reads = λ s p looked there some low.
          ⊎_elim
          (λ none.
          let z : a.max ≡ 1 = omega arith in
          let b : l ≡ 1 = e.0 ∙ ap bit_length z ∙ one_bit in
          let m : c.uniform_forms-f.result.short ≡ 1 = e.1 ∙ ap (λ (n : ℕ). 2 ^ bit_length n - n) z ∙ ap (λ (n : ℕ). 2 ^ n - 1) one_bit in
          let v : a.word / 2 ^ (32 - l) < 2 = rw b (omega (arith, c.ranges.word.fits)) in
          absurd (omega (arith, m, v, c.if-w-f.false)))
          (λ more. long s p a.word a.max l c.uniform_forms-f.result.short e.0 e.1 looked there more low c.if-w-f.false)
          (lt_or_le a.max 2);
      most = omega (arith, e.0);
    }
