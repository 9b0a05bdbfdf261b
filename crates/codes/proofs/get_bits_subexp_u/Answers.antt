use mathlib.Core.Bool.{true}
use mathlib.Core.Path.{◌≡◌, ◌∙◌, sym, ap}
use Prim.Native.Nat.{ℕ, ◌-◌, ◌*◌, ◌^◌, ◌<◌}
use native.Mathlib.Omega.{arith}
use borrow.Author.Tests.{le-leb, lt-leb}
use lib.Signed.{non_neg}
use lib.IntN.{nat_abs}
use lib.Dec.{T, leb}
use mir.Facts.{to_z-of_z}
use mir.Syntax.{w32}
use mir.Val.{to_z, of_z}
use Rattle.codes.proofs.Recenter.{recenter_lt}
use Rattle.codes.proofs.Args.{args_known}
use Rattle.codes.specs.Codes.{inv_recenter, subexp_args, get_bits_subexp_u}
use Rattle.getbits.proofs.Chain.{through, taken, left}
use Rattle.getbits.specs.declared.Read.{Read}
use Rattle.getbits.proofs.Widths.{nat_abs_fits}
use Rattle.codes.proofs.Callers.{subexp_lt}
use Rattle.getbits.specs.Chain.{pick}
use Rattle.codes.proofs.get_bits_subexp_u.Goals as goal

pub overflow_cast-k : goal.overflow_cast-k
overflow_cast-k c =
    let tested : (let a = c.args in c.subexp_args.result ≡ subexp_args a.ref_val a.n a.k) = rw (to_z-of_z c.ranges.k) at c.subexp_args.ensures in
    let right : (let a = c.args in subexp_args a.ref_val a.n a.k ≡ true) = sym (tested) ∙ c.if-subexp_args.true in
    let known : (let a = c.args in T (non_neg a.k) × (nat_abs a.k < 32) × (a.ref_val < a.n) × (a.n < 2 ^ 31)) = let a = c.args in args_known a.ref_val a.n a.k (right) in
    rw (to_z-of_z c.ranges.k) ((known).0, nat_abs_fits c.args.k c.ranges.k)

pub subexp-r-requires : goal.subexp-r-requires
subexp-r-requires c =
    let tested : (let a = c.args in c.subexp_args.result ≡ subexp_args a.ref_val a.n a.k) = rw (to_z-of_z c.ranges.k) at c.subexp_args.ensures in
    let right : (let a = c.args in subexp_args a.ref_val a.n a.k ≡ true) = sym (tested) ∙ c.if-subexp_args.true in
    let known : (let a = c.args in T (non_neg a.k) × (nat_abs a.k < 32) × (a.ref_val < a.n) × (a.n < 2 ^ 31)) = let a = c.args in args_known a.ref_val a.n a.k (right) in
    rw (to_z-of_z c.ranges.k) ((known).1, omega (arith, (known).2), (known).3)

pub overflow_mul-ref_val : goal.overflow_mul-ref_val
overflow_mul-ref_val c =
    let tested : (let a = c.args in c.subexp_args.result ≡ subexp_args a.ref_val a.n a.k) = rw (to_z-of_z c.ranges.k) at c.subexp_args.ensures in
    let right : (let a = c.args in subexp_args a.ref_val a.n a.k ≡ true) = sym (tested) ∙ c.if-subexp_args.true in
    let known : (let a = c.args in T (non_neg a.k) × (nat_abs a.k < 32) × (a.ref_val < a.n) × (a.n < 2 ^ 31)) = let a = c.args in args_known a.ref_val a.n a.k (right) in
    omega (arith, (known).2, (known).3)

pub inv_recenter-requires : goal.inv_recenter-requires
inv_recenter-requires c =
    let tested : (let a = c.args in c.subexp_args.result ≡ subexp_args a.ref_val a.n a.k) = rw (to_z-of_z c.ranges.k) at c.subexp_args.ensures in
    let right : (let a = c.args in subexp_args a.ref_val a.n a.k ≡ true) = sym (tested) ∙ c.if-subexp_args.true in
    let known : (let a = c.args in T (non_neg a.k) × (nat_abs a.k < 32) × (a.ref_val < a.n) × (a.n < 2 ^ 31)) = let a = c.args in args_known a.ref_val a.n a.k (right) in
    let below : c.subexp-r.result.value < c.args.n = omega (arith, subexp_lt 33 c.args.s.now c.args.p c.args.n (nat_abs (to_z w32 (of_z w32 c.args.k))) 0 0 (omega (arith, (known).2)), ap (λ (x : Read ℕ). x.value) c.subexp-r.ensures) in
    omega (arith, (known).2, (known).3, below)

pub returns-then-ref_val-n : goal.returns-then-ref_val-n
unfolding get_bits_subexp_u
returns-then-ref_val-n c =
    let tested : (let a = c.args in c.subexp_args.result ≡ subexp_args a.ref_val a.n a.k) = rw (to_z-of_z c.ranges.k) at c.subexp_args.ensures in
    let right : (let a = c.args in subexp_args a.ref_val a.n a.k ≡ true) = sym (tested) ∙ c.if-subexp_args.true in
    let opened : (let a = c.args in let r = c.subexp-r.result in get_bits_subexp_u a.s.now a.p a.ref_val a.n a.k ≡ record { value = pick (leb (2 * a.ref_val) a.n) (inv_recenter a.ref_val r.value) (a.n - 1 - inv_recenter (a.n - 1 - a.ref_val) r.value); next = r.next }) = taken _ _ _ (right) ∙ through _ _ (rw (to_z-of_z c.ranges.k) at c.subexp-r.ensures) in
    let a = c.args in
    sym (opened
    ∙ ap (λ (x : ℕ). record { value = x; next = c.subexp-r.result.next }) (taken _ _ _ (le-leb (2 * a.ref_val) a.n c.if-ref_val-n.true) ∙ sym c.inv_recenter.ensures))

pub overflow_sub-result : goal.overflow_sub-result
overflow_sub-result c =
    let tested : (let a = c.args in c.subexp_args.result ≡ subexp_args a.ref_val a.n a.k) = rw (to_z-of_z c.ranges.k) at c.subexp_args.ensures in
    let right : (let a = c.args in subexp_args a.ref_val a.n a.k ≡ true) = sym (tested) ∙ c.if-subexp_args.true in
    let known : (let a = c.args in T (non_neg a.k) × (nat_abs a.k < 32) × (a.ref_val < a.n) × (a.n < 2 ^ 31)) = let a = c.args in args_known a.ref_val a.n a.k (right) in
    let below : c.subexp-r.result.value < c.args.n = omega (arith, subexp_lt 33 c.args.s.now c.args.p c.args.n (nat_abs (to_z w32 (of_z w32 c.args.k))) 0 0 (omega (arith, (known).2)), ap (λ (x : Read ℕ). x.value) c.subexp-r.ensures) in
    omega (arith, below)

pub overflow_sub-n : goal.overflow_sub-n
overflow_sub-n c =
    let tested : (let a = c.args in c.subexp_args.result ≡ subexp_args a.ref_val a.n a.k) = rw (to_z-of_z c.ranges.k) at c.subexp_args.ensures in
    let right : (let a = c.args in subexp_args a.ref_val a.n a.k ≡ true) = sym (tested) ∙ c.if-subexp_args.true in
    let known : (let a = c.args in T (non_neg a.k) × (nat_abs a.k < 32) × (a.ref_val < a.n) × (a.n < 2 ^ 31)) = let a = c.args in args_known a.ref_val a.n a.k (right) in
    let below : c.subexp-r.result.value < c.args.n = omega (arith, subexp_lt 33 c.args.s.now c.args.p c.args.n (nat_abs (to_z w32 (of_z w32 c.args.k))) 0 0 (omega (arith, (known).2)), ap (λ (x : Read ℕ). x.value) c.subexp-r.ensures) in
    omega (arith, below)

pub overflow_sub-n-then-subexp_args : goal.overflow_sub-n-then-subexp_args
overflow_sub-n-then-subexp_args c =
    let tested : (let a = c.args in c.subexp_args.result ≡ subexp_args a.ref_val a.n a.k) = rw (to_z-of_z c.ranges.k) at c.subexp_args.ensures in
    let right : (let a = c.args in subexp_args a.ref_val a.n a.k ≡ true) = sym (tested) ∙ c.if-subexp_args.true in
    let known : (let a = c.args in T (non_neg a.k) × (nat_abs a.k < 32) × (a.ref_val < a.n) × (a.n < 2 ^ 31)) = let a = c.args in args_known a.ref_val a.n a.k (right) in
    omega (arith, (known).2)

pub inv_recenter-requires-then-subexp_args : goal.inv_recenter-requires-then-subexp_args
inv_recenter-requires-then-subexp_args c =
    let tested : (let a = c.args in c.subexp_args.result ≡ subexp_args a.ref_val a.n a.k) = rw (to_z-of_z c.ranges.k) at c.subexp_args.ensures in
    let right : (let a = c.args in subexp_args a.ref_val a.n a.k ≡ true) = sym (tested) ∙ c.if-subexp_args.true in
    let known : (let a = c.args in T (non_neg a.k) × (nat_abs a.k < 32) × (a.ref_val < a.n) × (a.n < 2 ^ 31)) = let a = c.args in args_known a.ref_val a.n a.k (right) in
    let below : c.subexp-r.result.value < c.args.n = omega (arith, subexp_lt 33 c.args.s.now c.args.p c.args.n (nat_abs (to_z w32 (of_z w32 c.args.k))) 0 0 (omega (arith, (known).2)), ap (λ (x : Read ℕ). x.value) c.subexp-r.ensures) in
    omega (arith, (known).2, (known).3, below)

pub overflow_sub-result-then-subexp_args : goal.overflow_sub-result-then-subexp_args
overflow_sub-result-then-subexp_args c =
    let tested : (let a = c.args in c.subexp_args.result ≡ subexp_args a.ref_val a.n a.k) = rw (to_z-of_z c.ranges.k) at c.subexp_args.ensures in
    let right : (let a = c.args in subexp_args a.ref_val a.n a.k ≡ true) = sym (tested) ∙ c.if-subexp_args.true in
    let known : (let a = c.args in T (non_neg a.k) × (nat_abs a.k < 32) × (a.ref_val < a.n) × (a.n < 2 ^ 31)) = let a = c.args in args_known a.ref_val a.n a.k (right) in
    let below : c.subexp-r.result.value < c.args.n = omega (arith, subexp_lt 33 c.args.s.now c.args.p c.args.n (nat_abs (to_z w32 (of_z w32 c.args.k))) 0 0 (omega (arith, (known).2)), ap (λ (x : Read ℕ). x.value) c.subexp-r.ensures) in
    let a = c.args in
    let h = recenter_lt (a.n - 1 - a.ref_val) c.subexp-r.result.value a.n (omega (arith, (known).2, c.if-ref_val-n.false)) (omega (arith, (known).2)) (below) in
    omega (arith, h, c.inv_recenter-then-subexp_args.ensures)

pub returns-then-subexp_args : goal.returns-then-subexp_args
unfolding get_bits_subexp_u
returns-then-subexp_args c =
    let tested : (let a = c.args in c.subexp_args.result ≡ subexp_args a.ref_val a.n a.k) = rw (to_z-of_z c.ranges.k) at c.subexp_args.ensures in
    let right : (let a = c.args in subexp_args a.ref_val a.n a.k ≡ true) = sym (tested) ∙ c.if-subexp_args.true in
    let opened : (let a = c.args in let r = c.subexp-r.result in get_bits_subexp_u a.s.now a.p a.ref_val a.n a.k ≡ record { value = pick (leb (2 * a.ref_val) a.n) (inv_recenter a.ref_val r.value) (a.n - 1 - inv_recenter (a.n - 1 - a.ref_val) r.value); next = r.next }) = taken _ _ _ (right) ∙ through _ _ (rw (to_z-of_z c.ranges.k) at c.subexp-r.ensures) in
    let a = c.args in
    sym (opened
    ∙ ap (λ (x : ℕ). record { value = x; next = c.subexp-r.result.next }) (left _ _ _ (lt-leb (2 * a.ref_val) a.n c.if-ref_val-n.false) ∙ ap (λ (x : ℕ). a.n - 1 - x) (sym c.inv_recenter-then-subexp_args.ensures)))

pub returns : goal.returns
unfolding get_bits_subexp_u
returns c =
    let tested : (let a = c.args in c.subexp_args.result ≡ subexp_args a.ref_val a.n a.k) = rw (to_z-of_z c.ranges.k) at c.subexp_args.ensures in
    c.refuse.ensures ∙ sym (left _ _ _ (sym (tested) ∙ c.if-subexp_args.false))
