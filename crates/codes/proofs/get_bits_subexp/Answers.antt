use mathlib.Core.Bool.{true}
use mathlib.Core.List.{List}
use mathlib.Core.Path.{◌≡◌, ◌∙◌, sym, ap}
use Prim.Native.Nat.{ℕ, ◌+◌, ◌-◌, ◌*◌, ◌^◌, ◌≤◌, ◌<◌}
use native.Mathlib.Omega.{arith}
use lib.Signed.{non_neg}
use lib.IntN.{ℤ, pos, nat_abs, ◌+ℤ◌, ◌-ℤ◌}
use lib.Dec.{T}
use mir.Val.{to_z, of_z}
use mir.Syntax.{w64}
use mir.Facts.{to_z-of_z}
use Rattle.codes.proofs.Callers.{subexp_u_lt}
use Rattle.codes.proofs.Args.{range_known}
use Rattle.codes.specs.Codes.{get_bits_subexp_u, subexp_range, get_bits_subexp}
use Rattle.getbits.proofs.Chain.{through, taken, left}
use Rattle.getbits.specs.declared.Read.{Read}
use Rattle.getbits.specs.declared.Place.{Place}
use Rattle.getbits.proofs.Widths.{back}
use Rattle.codes.proofs.get_bits_subexp.Goals as goal

-- a number that is read below 2 * n - 1
answer_lt : (s : List ℕ) (p : Place) (x : ℕ) (n : ℕ) (r : Read ℕ) → r ≡ get_bits_subexp_u s p x (2 * n - 1) (pos 3) → 1 ≤ n → n ≤ 2 ^ 30 → r.value < 2 ^ 31
answer_lt s p x n r e some low =
    omega (arith, subexp_u_lt s p x (2 * n - 1) (pos 3) (omega arith), ap (λ (z : Read ℕ). z.value) e)

pub overflow_cast-x : goal.overflow_cast-x
overflow_cast-x c =
    let same : to_z w64 (of_z w64 c.shifted-x.result) ≡ c.shifted-x.result = to_z-of_z {w = w64} (record { sfits = c.shifted-x.type_inv }) in
    let tested : c.subexp_range.result ≡ subexp_range c.args.n c.shifted-x.result = rw (same) at c.subexp_range.ensures in
    let right : subexp_range c.args.n c.shifted-x.result ≡ true = sym (tested) ∙ c.if-subexp_range.true in
    let known : (let n = c.args.n in let x = c.shifted-x.result in (1 ≤ n) × (n ≤ 2 ^ 30) × T (non_neg x) × (nat_abs x < 2 ^ 31)) = range_known c.args.n c.shifted-x.result (right) in
    rw (same) ((known).2, omega (arith, (known).3))

pub overflow_add-n : goal.overflow_add-n
overflow_add-n c =
    let same : to_z w64 (of_z w64 c.shifted-x.result) ≡ c.shifted-x.result = to_z-of_z {w = w64} (record { sfits = c.shifted-x.type_inv }) in
    let tested : c.subexp_range.result ≡ subexp_range c.args.n c.shifted-x.result = rw (same) at c.subexp_range.ensures in
    let right : subexp_range c.args.n c.shifted-x.result ≡ true = sym (tested) ∙ c.if-subexp_range.true in
    let known : (let n = c.args.n in let x = c.shifted-x.result in (1 ≤ n) × (n ≤ 2 ^ 30) × T (non_neg x) × (nat_abs x < 2 ^ 31)) = range_known c.args.n c.shifted-x.result (right) in
    omega (arith, (known).1, c.saturating_sub-off.ensures)

pub difference-requires : goal.difference-requires
difference-requires c =
    let same : to_z w64 (of_z w64 c.shifted-x.result) ≡ c.shifted-x.result = to_z-of_z {w = w64} (record { sfits = c.shifted-x.type_inv }) in
    let tested : c.subexp_range.result ≡ subexp_range c.args.n c.shifted-x.result = rw (same) at c.subexp_range.ensures in
    let right : subexp_range c.args.n c.shifted-x.result ≡ true = sym (tested) ∙ c.if-subexp_range.true in
    let known : (let n = c.args.n in let x = c.shifted-x.result in (1 ≤ n) × (n ≤ 2 ^ 30) × T (non_neg x) × (nat_abs x < 2 ^ 31)) = range_known c.args.n c.shifted-x.result (right) in
    let called : (let a = c.args in c.get_bits_subexp_u-r.result ≡ get_bits_subexp_u a.s.now a.p (nat_abs c.shifted-x.result) (2 * a.n - 1) (pos 3)) = let a = c.args in
    let e : a.n + c.saturating_sub-off.result ≡ 2 * a.n - 1 = omega (arith, (known).0, c.saturating_sub-off.ensures) in
    c.get_bits_subexp_u-r.ensures
    ∙ ap (λ (z : ℤ). get_bits_subexp_u a.s.now a.p (nat_abs z) (a.n + c.saturating_sub-off.result) (pos 3)) (same)
    ∙ ap (λ (x : ℕ). get_bits_subexp_u a.s.now a.p (nat_abs c.shifted-x.result) x (pos 3)) e in
    (answer_lt _ _ _ _ _ called known.0 known.1, omega (arith, (known).1, c.saturating_sub-off.ensures))

pub returns-then-subexp_range : goal.returns-then-subexp_range
unfolding get_bits_subexp
returns-then-subexp_range c =
    let sum : (let a = c.args in c.shifted-x.result ≡ a.ref_val +ℤ pos (a.n - 1)) = rw (to_z-of_z c.ranges.ref_val) at c.shifted-x.ensures ∙ ap (λ (x : ℕ). c.args.ref_val +ℤ pos x) c.saturating_sub-off.ensures in
    let same : to_z w64 (of_z w64 c.shifted-x.result) ≡ c.shifted-x.result = to_z-of_z {w = w64} (record { sfits = c.shifted-x.type_inv }) in
    let tested : c.subexp_range.result ≡ subexp_range c.args.n c.shifted-x.result = rw (same) at c.subexp_range.ensures in
    let right : subexp_range c.args.n c.shifted-x.result ≡ true = sym (tested) ∙ c.if-subexp_range.true in
    let known : (let n = c.args.n in let x = c.shifted-x.result in (1 ≤ n) × (n ≤ 2 ^ 30) × T (non_neg x) × (nat_abs x < 2 ^ 31)) = range_known c.args.n c.shifted-x.result (right) in
    let called : (let a = c.args in c.get_bits_subexp_u-r.result ≡ get_bits_subexp_u a.s.now a.p (nat_abs c.shifted-x.result) (2 * a.n - 1) (pos 3)) = let a = c.args in
    let e : a.n + c.saturating_sub-off.result ≡ 2 * a.n - 1 = omega (arith, (known).0, c.saturating_sub-off.ensures) in
    c.get_bits_subexp_u-r.ensures
    ∙ ap (λ (z : ℤ). get_bits_subexp_u a.s.now a.p (nat_abs z) (a.n + c.saturating_sub-off.result) (pos 3)) (same)
    ∙ ap (λ (x : ℕ). get_bits_subexp_u a.s.now a.p (nat_abs c.shifted-x.result) x (pos 3)) e in
    let off = c.saturating_sub-off in
    sym (through _ _ (sum)
    ∙ taken _ _ _ (right)
    ∙ through _ _ (called)
    ∙ ap (λ (z : ℤ). record { value = z; next = c.get_bits_subexp_u-r.result.next })
    (ap (λ (x : ℕ). pos c.get_bits_subexp_u-r.result.value -ℤ pos x) (sym off.ensures) ∙ sym c.difference.ensures ∙ sym (back c.difference.result c.difference.type_inv)))

pub returns : goal.returns
unfolding get_bits_subexp
returns c =
    let sum : (let a = c.args in c.shifted-x.result ≡ a.ref_val +ℤ pos (a.n - 1)) = rw (to_z-of_z c.ranges.ref_val) at c.shifted-x.ensures ∙ ap (λ (x : ℕ). c.args.ref_val +ℤ pos x) c.saturating_sub-off.ensures in
    let same : to_z w64 (of_z w64 c.shifted-x.result) ≡ c.shifted-x.result = to_z-of_z {w = w64} (record { sfits = c.shifted-x.type_inv }) in
    let tested : c.subexp_range.result ≡ subexp_range c.args.n c.shifted-x.result = rw (same) at c.subexp_range.ensures in
    sym (through _ _ (sum)
    ∙ left _ _ _ (sym (tested) ∙ c.if-subexp_range.false)
    ∙ ap (λ (x : Read ℕ). record { value = pos 0; next = x.next }) (sym c.refuse-r.ensures))
