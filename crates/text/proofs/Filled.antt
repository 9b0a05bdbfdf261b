-- How a template is filled, byte by byte. Assumes nothing.
use mathlib.Core.List.{List, [], ◌∷◌, ◌++◌}
use mathlib.Core.Path.{◌≡◌, refl}
use Prim.Native.Nat.{ℕ, suc, ◌+◌, ◌<◌, ◌≤◌}
use native.Mathlib.Numerals.{add-one}
use native.Mathlib.Omega.{arith}
use borrow.Author.Tests.{ne_eqb}
use lib.IntN.{ℤ, pos}
use lib.ListN.{length, drop, get_or, get_or-eq_default}
use Rattle.std.proofs.lemmas.List.{drop_more, drop_all}
use Rattle.text.specs.Text.{mark, signed, filled}

-- the byte at i of a template, and what is behind it: a mark stands for the k-th number
pub filled_mark : (t : List ℕ) (xs : List ℤ) (i k : ℕ) → i < length t → get_or t i 0 ≡ mark → filled (drop i t) xs k ≡ signed (get_or xs k (pos 0)) ++ filled (drop (i + 1) t) xs (k + 1)
unfolding filled
filled_mark t xs i k h e = rw (drop_more t i 0 h, e, add-one k) refl

pub filled_other : (t : List ℕ) (xs : List ℤ) (i k : ℕ) → i < length t → (get_or t i 0 ≡ mark → ⊥) → filled (drop i t) xs k ≡ (get_or t i 0 ∷ []) ++ filled (drop (i + 1) t) xs k
unfolding filled
filled_other t xs i k h e = rw (drop_more t i 0 h, ne_eqb _ _ e) refl

pub filled_end : (t : List ℕ) (xs : List ℤ) (i k : ℕ) → length t ≤ i → filled (drop i t) xs k ≡ []
unfolding filled
filled_end t xs i k h = rw (drop_all i t h) refl

-- past the numbers it does not matter where one is
pub filled_past : (t : List ℕ) (xs : List ℤ) (i k : ℕ) → length xs ≤ i → length xs ≤ k → filled t xs i ≡ filled t xs k
unfolding filled
filled_past [] xs i k h l = refl
filled_past (c ∷ t) xs i k h l =
    rw (get_or-eq_default xs (pos 0) {n = i} h, get_or-eq_default xs (pos 0) {n = k} l, filled_past t xs i k h l, filled_past t xs (suc i) (suc k) (omega arith) (omega arith)) refl
