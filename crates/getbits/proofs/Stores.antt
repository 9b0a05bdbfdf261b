-- Rows of stores, and rows of zeros. Assumes nothing.
use mathlib.Core.List.{List, [], ◌∷◌, ◌++◌}
use mathlib.Core.Path.{◌≡◌, refl, sym, ap, ◌∙◌}
use Prim.Native.Nat.{ℕ, zero, suc, ◌+◌}
use native.Mathlib.Nat.{add-zero, add-suc, suc-add}
use lib.ListN.{length, get_or, set, replicate}
use lib.Seq.{sets}

-- a row of stores behind another is one row
pub sets_append : (l : List ℕ) (i : ℕ) (a b : List ℕ) → sets l i (a ++ b) ≡ sets (sets l i a) (i + length a) b
sets_append l i [] b = rw add-zero refl
sets_append l i (v ∷ a) b = sets_append (set l i v) (suc i) a b ∙ ap (λ (k : ℕ). sets (sets (set l i v) (suc i) a) k b) (suc-add i (length a) ∙ sym (add-suc i (length a)))

-- each of n zeros is 0, and so is what is past them
pub zeros_at : (n k : ℕ) → ◌≡◌ {A = ℕ} (get_or (replicate n 0) k 0) 0
zeros_at zero k = refl
zeros_at (suc n) zero = refl
zeros_at (suc n) (suc k) = zeros_at n k
