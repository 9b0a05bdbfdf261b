-- Numbers laid out around a reference in the lower half of n numbers are below n. Assumes nothing.
use Prim.Native.Nat.{ℕ, ◌+◌, ◌-◌, ◌*◌, ◌/◌, ◌%◌, ◌≤◌, ◌<◌}
use native.Mathlib.Omega.{arith}
use borrow.Author.Tests.{ltb-false}
use lib.Dec.{ltb, eqb}
use Rattle.getbits.specs.Chain.{pick}
use Rattle.getbits.proofs.Chain.{picked}
use Rattle.codes.specs.Codes.{inv_recenter}

pub recenter_lt : (r v n : ℕ) → 2 * r ≤ n → r < n → v < n → inv_recenter r v < n
recenter_lt r v n h g l =
    let P : ℕ → Type 0 = λ x. x < n in
    picked P (ltb (2 * r) v) v (pick (eqb (v % 2) 0) (v / 2 + r) (r - (v + 1) / 2))
    (λ _. l)
    (λ t. picked P (eqb (v % 2) 0) (v / 2 + r) (r - (v + 1) / 2) (λ _. omega (arith, ltb-false (2 * r) v t)) (λ _. omega arith))
