-- When a row of numbers is the stored one.
use Rattle.std.specs.Prelude.{Bool, true, false, ◌&&◌, ◌||◌, List, [], ◌∷◌, ◌⊎◌, ◌≡◌, ℕ, ◌<◌, eqb, leb, ℤ, pos, negsuc, length, get_or, take}
use Rattle.getbits.specs.Bits.{signed_of}

-- are two whole numbers equal?
abbrev pub eq_z : ℤ → ℤ → Bool
eq_z (pos a) (pos b) = eqb a b
eq_z (negsuc a) (negsuc b) = eqb a b
eq_z (pos a) (negsuc b) = false
eq_z (negsuc a) (pos b) = false

-- does the stored number n stand for x? It does as it is, or as the signed number of its 32 bits
unfoldable pub stands : ℤ → ℕ → Bool
stands x n = eq_z x (pos n) || eq_z x (signed_of 32 n)

-- is a row the stored one? As many numbers, and each stored one stands for its own
unfoldable pub all_same : List ℤ → List ℕ → Bool
all_same [] [] = true
all_same (x ∷ xs) (n ∷ ns) = stands x n && all_same xs ns
all_same [] (n ∷ ns) = false
all_same (x ∷ xs) [] = false

-- do the first n of our numbers agree with the first m stored ones? Not where there are fewer
unfoldable pub agreeing : List ℤ → ℕ → List ℕ → ℕ → Bool
agreeing xs n ns m = (leb n (length xs) && leb m (length ns)) && all_same (take n xs) (take m ns)

-- the same as claims
abbrev pub Stands : ℤ → ℕ → Type 0
Stands x n = (x ≡ pos n) ⊎ (x ≡ signed_of 32 n)

pub record AllSame (xs : List ℤ) (ns : List ℕ) : Type 0 where
  pub count : length xs ≡ length ns
  pub each : (i : ℕ) → i < length xs → Stands (get_or xs i (pos 0)) (get_or ns i 0)

-- a test tells a claim: it is true exactly where the claim holds
pub record Tells (t : Bool) (P : Type 0) : Type 0 where
  pub sound : t ≡ true → P
  pub whole : P → t ≡ true
