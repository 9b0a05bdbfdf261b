use mathlib.Core.Path.{◌≡◌, ◌∙◌, sym, ap}
use Prim.Native.Nat.{ℕ, ◌+◌, ◌-◌, ◌^◌, ◌<◌}
use native.Mathlib.Omega.{arith}
use borrow.Author.Tests.{lt-ltb, le-ltb, le-leb, lt-leb, eq-eqb, ne_eqb}
use borrow.Author.Rules.{rules}
use lib.Dec.{ltb, eqb}
use Rattle.codes.proofs.Callers.{uniform_lt}
use Rattle.codes.specs.Codes.{get_uniform, get_ref_uniform}
use Rattle.getbits.proofs.Callers.{as_read, read_none}
use Rattle.getbits.proofs.Chain.{through, taken, left}
use Rattle.getbits.specs.declared.Read.{Read}
use Rattle.getbits.specs.Chain.{pick, then}
use Rattle.codes.proofs.get_ref_uniform.Goals as goal
use Rattle.codes.proofs.get_ref_uniform.Goals.{After-get_uniform-r}

abbrev held : After-get_uniform-r → ℕ
held u = u.min-d.result

below : (u : After-get_uniform-r) → u.get_uniform-r.result.value < 2 ^ 31
below u =
    let a = u.args in
    let b = u.get_bit-b.result in
    omega (arith, uniform_lt a.s.now b.next (a.max - 1) (omega (arith, u)), ap (λ (x : Read ℕ). x.value) u.get_uniform-r.ensures)

pub returns-then-max-le1 : goal.returns-then-max-le1
unfolding get_ref_uniform
returns-then-max-le1 c =
    let a = c.args in
    as_read a.s.now a.p 0 (omega arith) c.read_bits.ensures ∙ read_none a.s.now a.p ∙ sym (taken _ _ _ (le-leb a.max 1 (search rules)))

pub returns-then-max-ge2147483648 : goal.returns-then-max-ge2147483648
unfolding get_ref_uniform
returns-then-max-ge2147483648 c =
    let a = c.args in
    c.refuse.ensures ∙ sym (left _ _ _ (lt-leb a.max 1 (search rules)) ∙ taken _ _ _ (le-leb (2 ^ 31) a.max (search rules)))

pub returns-then-b-eq0 : goal.returns-then-b-eq0
unfolding get_ref_uniform
returns-then-b-eq0 c =
    let opened : (let a = c.args in let d = c.min-d.result in let b = c.get_bit-b.result in get_ref_uniform a.s.now a.p a.max a.def ≡ pick (eqb b.value 0) (record { value = d; next = b.next }) (then (get_uniform a.s.now b.next (a.max - 1)) λ r. record { value = pick (ltb r.value d) r.value (r.value + 1); next = r.next })) = let a = c.args in
    left _ _ _ (lt-leb a.max 1 (omega arith))
    ∙ left _ _ _ (lt-leb (2 ^ 31) a.max (omega arith))
    ∙ through _ _ c.min-d.ensures
    ∙ through _ _ c.get_bit-b.ensures in
    sym (opened ∙ taken _ _ _ (eq-eqb c.get_bit-b.result.value 0 c.if-b-eq0.true))

pub returns-then-r-d : goal.returns-then-r-d
unfolding get_ref_uniform
returns-then-r-d c =
    let opened : (let a = c.args in let d = c.min-d.result in let b = c.get_bit-b.result in get_ref_uniform a.s.now a.p a.max a.def ≡ pick (eqb b.value 0) (record { value = d; next = b.next }) (then (get_uniform a.s.now b.next (a.max - 1)) λ r. record { value = pick (ltb r.value d) r.value (r.value + 1); next = r.next })) = let a = c.args in
    left _ _ _ (lt-leb a.max 1 (omega arith))
    ∙ left _ _ _ (lt-leb (2 ^ 31) a.max (omega arith))
    ∙ through _ _ c.min-d.ensures
    ∙ through _ _ c.get_bit-b.ensures in
    let other : (let a = c.args in let r = c.get_uniform-r.result in get_ref_uniform a.s.now a.p a.max a.def ≡ record { value = pick (ltb r.value (held (goal.at.returns-then-r-d c).After-get_uniform-r)) r.value (r.value + 1); next = r.next }) = opened ∙ left _ _ _ (ne_eqb c.get_bit-b.result.value 0 c.if-b-eq0.false) ∙ through _ _ c.get_uniform-r.ensures in
    sym (other ∙ ap (λ (x : ℕ). record { value = x; next = c.get_uniform-r.result.next }) (taken _ _ _ (lt-ltb c.get_uniform-r.result.value (held (goal.at.returns-then-r-d c).After-get_uniform-r) c.if-r-d.true)))

pub overflow_add-result : goal.overflow_add-result
overflow_add-result c =
    omega (arith, below (goal.at.overflow_add-result c).After-get_uniform-r)

pub returns : goal.returns
unfolding get_ref_uniform
returns c =
    let opened : (let a = c.args in let d = c.min-d.result in let b = c.get_bit-b.result in get_ref_uniform a.s.now a.p a.max a.def ≡ pick (eqb b.value 0) (record { value = d; next = b.next }) (then (get_uniform a.s.now b.next (a.max - 1)) λ r. record { value = pick (ltb r.value d) r.value (r.value + 1); next = r.next })) = let a = c.args in
    left _ _ _ (lt-leb a.max 1 (omega arith))
    ∙ left _ _ _ (lt-leb (2 ^ 31) a.max (omega arith))
    ∙ through _ _ c.min-d.ensures
    ∙ through _ _ c.get_bit-b.ensures in
    let other : (let a = c.args in let r = c.get_uniform-r.result in get_ref_uniform a.s.now a.p a.max a.def ≡ record { value = pick (ltb r.value (held (goal.at.returns c).After-get_uniform-r)) r.value (r.value + 1); next = r.next }) = opened ∙ left _ _ _ (ne_eqb c.get_bit-b.result.value 0 c.if-b-eq0.false) ∙ through _ _ c.get_uniform-r.ensures in
    sym (other ∙ ap (λ (x : ℕ). record { value = x; next = c.get_uniform-r.result.next }) (left _ _ _ (le-ltb c.get_uniform-r.result.value (held (goal.at.returns c).After-get_uniform-r) c.if-r-d.false)))
