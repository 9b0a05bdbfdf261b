-- How rows of numbers grow, a signed number's digits, and a flag as a number. Assumes nothing.
use mathlib.Core.Bool.{Bool, true, false}
use mathlib.Core.List.{List, [], ◌∷◌, ◌++◌, append_assoc, append-nil}
use mathlib.Core.Logic.{⊎_elim}
use mathlib.Core.Path.{◌≡◌, refl, sym, ap, ◌∙◌}
use Prim.Native.Nat.{ℕ, zero, suc, ◌+◌, ◌<◌, ◌≤◌, min}
use native.Mathlib.Nat.{min-eq_left, min-eq_right, not-suc-le-zero}
use native.Mathlib.Numerals.{add-one}
use native.Mathlib.Omega.{arith}
use borrow.Author.Tests.{ltb-true, ne_eqb}
use lib.Dec.{eqb}
use lib.IntN.{ℤ, pos, negsuc, nat_abs}
use lib.ListN.{length, take, drop, get_or}
use lib.Seq.{take-suc, take_all}
use lib.Signed.{lt_z}
use mir.Val.{bool_byte}
use Rattle.getbits.specs.Chain.{pick}
use Rattle.getbits.proofs.Places.{lt_or_le}
use Rattle.std.proofs.lemmas.Grind.{common_steps}
use Rattle.text.proofs.Puts.{puts}
use Rattle.text.specs.Text.{blank, minus, decimal, signed, nexts, row}

nexts_append : (a b : List ℕ) → nexts (a ++ b) ≡ nexts a ++ nexts b
unfolding nexts
nexts_append [] b = refl
nexts_append (x ∷ a) b = ap (λ (t : List ℕ). blank ∷ t) (ap (λ (t : List ℕ). decimal x ++ t) (nexts_append a b) ∙ sym (append_assoc (decimal x) (nexts a) (nexts b)))

nexts_one : (x : ℕ) → nexts (x ∷ []) ≡ blank ∷ decimal x
unfolding nexts
nexts_one x = ap (λ (t : List ℕ). blank ∷ t) (append-nil (decimal x))

-- one number more
pub nexts_more : (xs : List ℕ) (i : ℕ) → i < length xs → nexts (take (i + 1) xs) ≡ nexts (take i xs) ++ (blank ∷ decimal (get_or xs i 0))
nexts_more xs i h = rw (add-one i, take-suc xs i 0 h, nexts_append (take i xs) (get_or xs i 0 ∷ []), nexts_one (get_or xs i 0)) refl

-- the first number, and what is behind it
pub row_first : (xs : List ℕ) → 1 ≤ length xs → row xs ≡ decimal (get_or xs 0 0) ++ nexts (drop 1 xs)
unfolding row
row_first [] h = absurd (omega arith)
row_first (x ∷ xs) h = refl

pub row_none : (xs : List ℕ) → length xs < 1 → row xs ≡ []
unfolding row
row_none [] h = refl
row_none (x ∷ xs) h = absurd (omega arith)

-- one number more: it is the first, or stands behind a blank
pub row_more : (xs : List ℕ) (i : ℕ) → i < length xs → row (take (i + 1) xs) ≡ row (take i xs) ++ pick (eqb i 0) (decimal (get_or xs i 0)) (blank ∷ decimal (get_or xs i 0))
unfolding row nexts
row_more [] i h = absurd (omega arith)
row_more (x ∷ xs) zero h = append-nil (decimal x)
row_more (x ∷ xs) (suc i) h = rw (ne_eqb (suc i) 0 (λ e. omega arith))
    (ap (λ (k : ℕ). row (take k (x ∷ xs))) (add-one (suc i))
    ∙ ap (λ (t : List ℕ). decimal x ++ t) (ap (λ (k : ℕ). nexts (take k xs)) (sym (add-one i)) ∙ nexts_more xs i (omega arith))
    ∙ sym (append_assoc (decimal x) (nexts (take i xs)) (blank ∷ decimal (get_or xs i 0))))

-- no more numbers than there are
pub take_min : (xs : List ℕ) (n : ℕ) → take (min n (length xs)) xs ≡ take n xs
take_min xs n =
    ⊎_elim (λ h. rw (min-eq_left {n = n} {m = length xs} (omega arith)) refl)
    (λ h. rw (min-eq_right {n = length xs} {m = n} h) (take_all (length xs) xs (omega arith) ∙ sym (take_all n xs h)))
    (lt_or_le n (length xs))

-- how a loop over numbers goes on
pub ruleset rows = (puts, common_steps, nexts_more, row_first, row_none)

pub signed_negative : (z : ℤ) → lt_z z (pos 0) ≡ true → signed z ≡ minus ∷ decimal (nat_abs z)
unfolding signed
signed_negative (pos n) h = absurd (not-suc-le-zero (ltb-true n 0 h))
signed_negative (negsuc n) h = refl

pub signed_other : (z : ℤ) → lt_z z (pos 0) ≡ false → signed z ≡ decimal (nat_abs z)
unfolding signed
signed_other (pos n) h = refl
signed_other (negsuc n) h = let e : ◌≡◌ {A = ℕ} 0 1 = cc in absurd (omega arith)

-- a flag as a number
pub flag : (b : Bool) → pick b 1 0 ≡ bool_byte b
flag true = refl
flag false = refl
