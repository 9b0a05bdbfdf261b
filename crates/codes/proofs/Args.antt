-- What right arguments are known to be. Assumes nothing.
use mathlib.Core.Path.{◌≡◌, refl, sym, subst}
use mathlib.Core.Bool.{true, ◌&&◌}
use Prim.Native.Nat.{ℕ, ◌^◌, ◌≤◌, ◌<◌}
use borrow.Author.Tests.{ltb-true, leb-true}
use lib.Dec.{T, ltb, leb}
use lib.IntN.{ℤ, pos, negsuc, nat_abs}
use lib.Signed.{le_z, lt_z, non_neg}
use Rattle.getbits.proofs.Chain.{both}
use Rattle.codes.specs.Codes.{subexp_args, subexp_range}

-- a number from 0 to below m
pub in_range : (z : ℤ) (m : ℕ) → le_z (pos 0) z && lt_z z (pos m) ≡ true → T (non_neg z) × (nat_abs z < m) × (pos (nat_abs z) ≡ z)
in_range (pos n) m h = (tt, ltb-true n m (both (le_z (pos 0) (pos n)) (ltb n m) h).1, refl)
in_range (negsuc n) m h = absurd (subst T (sym h) tt)

pub args_known : (ref n : ℕ) (k : ℤ) → subexp_args ref n k ≡ true → T (non_neg k) × (nat_abs k < 32) × (ref < n) × (n < 2 ^ 31)
args_known ref n k h =
    let w = both (le_z (pos 0) k && lt_z k (pos 32)) (ltb ref n && ltb n (2 ^ 31)) h in
    let z = in_range k 32 w.0 in
    let r = both (ltb ref n) (ltb n (2 ^ 31)) w.1 in
    (z.0, z.1, ltb-true ref n r.0, ltb-true n (2 ^ 31) r.1)

pub range_known : (n : ℕ) (x : ℤ) → subexp_range n x ≡ true → (1 ≤ n) × (n ≤ 2 ^ 30) × T (non_neg x) × (nat_abs x < 2 ^ 31)
range_known n x h =
    let w = both (leb 1 n && leb n (2 ^ 30)) (le_z (pos 0) x && lt_z x (pos (2 ^ 31))) h in
    let l = both (leb 1 n) (leb n (2 ^ 30)) w.0 in
    let z = in_range x (2 ^ 31) w.1 in
    (leb-true 1 n l.0, leb-true n (2 ^ 30) l.1, z.0, z.1)
