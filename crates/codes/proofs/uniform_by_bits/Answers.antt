use mathlib.Core.List.{List}
use mathlib.Core.Path.{◌≡◌, ◌∙◌, sym, ap}
use Prim.Native.Nat.{ℕ, ◌+◌, ◌-◌, ◌*◌, ◌^◌, ◌≤◌, ◌<◌}
use native.Mathlib.Omega.{arith}
use borrow.Author.Tests.{lt-ltb, le-ltb, le-leb, lt-leb}
use borrow.Author.Rules.{rules}
use lib.IntN.{pos}
use lib.Dec.{ltb}
use Rattle.codes.specs.Codes.{get_uniform}
use Rattle.getbits.proofs.Callers.{as_read, read_none, read_lt, bit_lt}
use Rattle.getbits.proofs.Chain.{through, taken, left}
use Rattle.getbits.specs.declared.Read.{Read}
use Rattle.getbits.specs.declared.Place.{Place}
use Rattle.getbits.specs.Bits.{get_bit, get_bits}
use Rattle.getbits.specs.Chain.{pick, then}
use Rattle.codes.proofs.Callers.{length_at, uniform_more}
use Rattle.codes.proofs.uniform_by_bits.Goals as goal
use Rattle.codes.proofs.uniform_by_bits.Goals.{After-uniform_forms-f}

-- behind the two first questions
module _ (c : After-uniform_forms-f) where
  abbrev s : List ℕ
  s = c.args.s.now

  abbrev p : Place
  p = c.args.p

  abbrev max : ℕ
  max = c.args.max

  abbrev l : ℕ
  l = c.uniform_forms-f.result.bits

  abbrev m : ℕ
  m = c.uniform_forms-f.result.short

  -- l is the bit length
  forms : (1 ≤ l) × (l < 32) × (2 ^ (l - 1) ≤ max)
  forms =
      let is = length_at max l c.uniform_forms-f.ensures.0 (omega arith) (omega arith) in
      (is.0, is.1, is.3)

  -- with l - 1 bits read
  module _ (r : Read ℕ) (e : r ≡ get_bits s p (pos (l - 1))) where
    value_lt : (r.value < 2 ^ (l - 1)) × (2 ^ (l - 1) ≤ max)
    value_lt = (omega (arith, read_lt s p (l - 1), ap (λ (x : Read ℕ). x.value) (as_read s p (l - 1) (omega (arith, forms.1)) e)), forms.2)

    behind : get_uniform s p max ≡ pick (ltb r.value m) r (then (get_bit s r.next) λ b. record { value = 2 * r.value - m + b.value; next = b.next })
    behind =
        uniform_more s p max l m c.uniform_forms-f.ensures.0 c.uniform_forms-f.ensures.1 (omega arith) (omega arith)
        ∙ through _ _ (as_read s p (l - 1) (omega (arith, forms.1)) e)

    short : r.value < m → r ≡ get_uniform s p max
    short h = sym (behind ∙ taken _ _ _ (lt-ltb r.value m h))

    long : (b : Read ℕ) → b ≡ get_bit s r.next → m ≤ r.value → record { value = 2 * r.value - m + b.value; next = b.next } ≡ get_uniform s p max
    long b f h = sym (behind ∙ left _ _ _ (le-ltb r.value m h) ∙ through _ _ f)

pub returns-then-max-le1 : goal.returns-then-max-le1
unfolding get_uniform
returns-then-max-le1 c =
    let a = c.args in
    as_read a.s.now a.p 0 (omega arith) c.read_bits.ensures ∙ read_none a.s.now a.p ∙ sym (taken _ _ _ (le-leb a.max 1 (search rules)))

pub returns-then-max-ge2147483648 : goal.returns-then-max-ge2147483648
unfolding get_uniform
returns-then-max-ge2147483648 c =
    let a = c.args in
    c.refuse.ensures ∙ sym (left _ _ _ (lt-leb a.max 1 (search rules)) ∙ taken _ _ _ (le-leb (2 ^ 31) a.max (search rules)))

-- as the definition has it, since the bits may run out
pub overflow_sub-l : goal.overflow_sub-l
overflow_sub-l c = (forms (goal.at.overflow_sub-l c).After-uniform_forms-f).0

pub returns-then-v-m : goal.returns-then-v-m
returns-then-v-m c =
    short (goal.at.returns-then-v-m c).After-uniform_forms-f c.read_bits-r.result c.read_bits-r.ensures (search rules)

pub overflow_mul-result : goal.overflow_mul-result
overflow_mul-result c =
    let v = value_lt (goal.at.overflow_mul-result c).After-uniform_forms-f c.read_bits-r.result c.read_bits-r.ensures in
    omega (arith, v.0, v.1, c)

pub overflow_add-result : goal.overflow_add-result
overflow_add-result c =
    let b = c.get_bit-b in
    let v = value_lt (goal.at.overflow_add-result c).After-uniform_forms-f c.read_bits-r.result c.read_bits-r.ensures in
    omega (arith, v.0, v.1, bit_lt (s (goal.at.overflow_add-result c).After-uniform_forms-f) c.read_bits-r.result.next, ap (λ (x : Read ℕ). x.value) b.ensures, c)

pub returns : goal.returns
returns c =
    let b = c.get_bit-b in
    long (goal.at.returns c).After-uniform_forms-f c.read_bits-r.result c.read_bits-r.ensures b.result b.ensures (search rules)
