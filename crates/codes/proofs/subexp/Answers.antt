use mathlib.Core.List.{List}
use mathlib.Core.Path.{◌≡◌, refl, ◌∙◌, sym, ap}
use Prim.Native.Nat.{ℕ, suc, ◌+◌, ◌-◌, ◌*◌, ◌^◌, ◌≤◌, ◌<◌}
use native.Mathlib.Omega.{arith}
use borrow.Author.Tests.{le-leb, lt-leb, eq-eqb, ne_eqb}
use borrow.Author.Rules.{rules}
use lib.IntN.{pos}
use lib.Dec.{leb, eqb}
use Rattle.codes.proofs.Callers.{subexp_lt, pow_lt_only}
use Rattle.codes.specs.Codes.{plus, get_uniform, subexp_from}
use Rattle.getbits.proofs.Callers.{as_read, power_below}
use Rattle.getbits.proofs.Chain.{through, taken, left}
use Rattle.getbits.specs.declared.Read.{Read}
use Rattle.getbits.specs.declared.Place.{Place}
use Rattle.getbits.specs.Bits.{read_bits, get_bit, get_bits}
use Rattle.getbits.specs.Chain.{pick, then}
use Rattle.codes.proofs.subexp.Goals as goal
use Rattle.codes.proofs.subexp.Goals.{After-power-a}

-- step i, with its number of bits at hand
module _ (k : After-power-a) where
  abbrev s : List ℕ
  s = k.args.s.now

  abbrev n : ℕ
  n = k.args.n

  abbrev q : Place
  q = k.loop-v.q

  abbrev v : ℕ
  v = k.loop-v.v

  abbrev b : ℕ
  b = k.step_bits-b.result

  twos : k.power-a.result ≡ 2 ^ b
  twos = power_below (omega (arith, k.step_bits-b.ensures)) k.power-a.ensures.0

  abbrev whole : Read ℕ
  whole = subexp_from 33 s k.args.p n k.args.k 0 0

  abbrev onward : Place → Read ℕ
  onward p = subexp_from (32 - k.loop-v.i) s p n k.args.k (k.loop-v.i + 1) (v + 2 ^ b)

  opened : whole
      ≡ pick (leb n (v + 3 * 2 ^ b)) (plus v (get_uniform s q (n - v))) (then (get_bit s q) λ g. pick (eqb g.value 0) (plus v (read_bits s g.next b)) (onward g.next))
  unfolding subexp_from
  opened =
      let e : 33 - k.loop-v.i ≡ suc (32 - k.loop-v.i) = omega (arith) in
      sym k.loop-v.invariant.3 ∙ ap (λ (x : ℕ). subexp_from x s q n k.args.k k.loop-v.i v) e ∙ through _ _ k.step_bits-b.ensures

  -- the rest of n as uniform
  rest : (r : Read ℕ) → r ≡ get_uniform s q (n - v) → n ≤ v + 3 * k.power-a.result
      → plus v r ≡ whole
  rest r e h = ap (plus v) e ∙ sym (opened ∙ taken _ _ _ (le-leb n (v + 3 * 2 ^ b) (omega (arith, twos))))

  -- a number that is the whole reading's is below n
  within : (r : Read ℕ) → plus v r ≡ whole → v + r.value < 2 ^ 31
  within r e =
      omega (arith, subexp_lt 33 s k.args.p n k.args.k 0 0 k.requires.1, ap (λ (x : Read ℕ). x.value) e, k.requires.2)

  module _ (g : Read ℕ) (e : g ≡ get_bit s q) (h : v + 3 * k.power-a.result < n) where
    behind : whole ≡ pick (eqb g.value 0) (plus v (read_bits s g.next b)) (onward g.next)
    behind = opened ∙ left _ _ _ (lt-leb n (v + 3 * 2 ^ b) (omega (arith, twos))) ∙ through _ _ e

    -- the number is in this step
    here : g.value ≡ 0 → (r : Read ℕ) → r ≡ get_bits s g.next (pos b)
        → plus v r ≡ whole
    here z r f = ap (plus v) (as_read s g.next b (omega (arith, k.step_bits-b.ensures)) f) ∙ sym (behind ∙ taken _ _ _ (eq-eqb g.value 0 z))

    -- it is in a later one
    on : (g.value ≡ 0 → ⊥) → subexp_from (33 - (k.loop-v.i + 1)) s g.next n k.args.k (k.loop-v.i + 1) (v + k.power-a.result)
        ≡ whole
    on z =
        let f : 33 - (k.loop-v.i + 1) ≡ 32 - k.loop-v.i = omega arith in
        ap (λ (x : ℕ). subexp_from x s g.next n k.args.k (k.loop-v.i + 1) (v + k.power-a.result)) f
        ∙ ap (λ (x : ℕ). subexp_from (32 - k.loop-v.i) s g.next n k.args.k (k.loop-v.i + 1) (v + x)) twos
        ∙ sym (behind ∙ left _ _ _ (ne_eqb g.value 0 z))

    -- the next step is within the width
    more : b < 30
    more = pow_lt_only b 30 (omega (arith, twos, k.requires.2))

pub loop-v-init : goal.loop-v-init
loop-v-init c = (search rules, search rules, search rules, refl)

pub overflow_add-result : goal.overflow_add-result
overflow_add-result c =
    omega (arith, within (goal.at.overflow_add-result c).After-power-a c.get_uniform-r.result (rest (goal.at.overflow_add-result c).After-power-a c.get_uniform-r.result c.get_uniform-r.ensures c.if-n-v.true))

pub returns-then-n-v : goal.returns-then-n-v
returns-then-n-v c =
    rest (goal.at.returns-then-n-v c).After-power-a c.get_uniform-r.result c.get_uniform-r.ensures c.if-n-v.true

pub overflow_add-result-then-g-eq0 : goal.overflow_add-result-then-g-eq0
overflow_add-result-then-g-eq0 c =
    omega (arith, within (goal.at.overflow_add-result-then-g-eq0 c).After-power-a c.read_bits-r.result (here (goal.at.overflow_add-result-then-g-eq0 c).After-power-a c.get_bit-g.result c.get_bit-g.ensures c.if-n-v.false c.if-g-eq0.true c.read_bits-r.result c.read_bits-r.ensures))

pub returns-then-g-eq0 : goal.returns-then-g-eq0
returns-then-g-eq0 c =
    here (goal.at.returns-then-g-eq0 c).After-power-a c.get_bit-g.result c.get_bit-g.ensures c.if-n-v.false c.if-g-eq0.true c.read_bits-r.result c.read_bits-r.ensures

pub loop-v-smaller : goal.loop-v-smaller
loop-v-smaller c = omega arith

pub loop-v-preserved : goal.loop-v-preserved
loop-v-preserved c =
    let small = more (goal.at.loop-v-preserved c).After-power-a c.get_bit-g.result c.get_bit-g.ensures c.if-n-v.false in (
      omega (arith, small, c.step_bits-b.ensures),
      omega (arith, small, c.step_bits-b.ensures),
      omega arith,
      on (goal.at.loop-v-preserved c).After-power-a c.get_bit-g.result c.get_bit-g.ensures c.if-n-v.false c.if-g-eq0.false,
    )
