-- How a row of numbers grows. Assumes nothing.
use mathlib.Core.List.{List, [], ◌∷◌, ◌++◌, append_assoc, append-nil}
use mathlib.Core.Path.{◌≡◌, sym, ap, ◌∙◌}
use Prim.Native.Nat.{ℕ, zero, suc, ◌+◌, ◌<◌}
use native.Mathlib.Numerals.{add-one}
use native.Mathlib.Omega.{arith}
use borrow.Author.Tests.{ne_eqb}
use lib.Dec.{eqb}
use lib.ListN.{length, take, get_or}
use Rattle.std.proofs.lemmas.Grind.{common_steps}
use Rattle.getbits.specs.Chain.{pick}
use Rattle.text.specs.Text.{blank, decimal, nexts, row}
use Rattle.text.proofs.Puts.{puts}
use Rattle.text.proofs.Rows.{nexts_more}

-- one number more: it is the first, or stands behind a blank
pub row_more : (xs : List ℕ) (i : ℕ) → i < length xs → row (take (i + 1) xs) ≡ row (take i xs) ++ pick (eqb i 0) (decimal (get_or xs i 0)) (blank ∷ decimal (get_or xs i 0))
unfolding row nexts
row_more [] i h = absurd (omega arith)
row_more (x ∷ xs) zero h = append-nil (decimal x)
row_more (x ∷ xs) (suc i) h = rw (ne_eqb (suc i) 0 (λ e. omega arith))
    (ap (λ (k : ℕ). row (take k (x ∷ xs))) (add-one (suc i))
    ∙ ap (λ (t : List ℕ). decimal x ++ t) (ap (λ (k : ℕ). nexts (take k xs)) (sym (add-one i)) ∙ nexts_more xs i (omega arith))
    ∙ sym (append_assoc (decimal x) (nexts (take i xs)) (blank ∷ decimal (get_or xs i 0))))

pub ruleset rows = (puts, common_steps, row_more)
