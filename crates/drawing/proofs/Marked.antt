-- How a template with natural numbers is filled. Assumes nothing.
use mathlib.Core.List.{List, [], ◌∷◌}
use mathlib.Core.Logic.{⊎_elim}
use mathlib.Core.Path.{◌≡◌, refl}
use Prim.Native.Nat.{ℕ, zero, suc, ◌+◌, ◌*◌, ◌≤◌, min}
use native.Mathlib.Omega.{arith}
use borrow.Author.Tests.{lt-ltb, le-ltb}
use lib.Dec.{ltb}
use lib.IntN.{pos}
use lib.ListN.{get_or}
use Rattle.getbits.specs.Chain.{pick}
use Rattle.getbits.proofs.Places.{lt_or_le}
use Rattle.text.specs.Text.{decimal, signed}
use Rattle.drawing.specs.Template.{integers}

pub number : (xs : List ℕ) (k : ℕ) → signed (get_or (integers xs) k (pos 0)) ≡ decimal (get_or xs k 0)
unfolding signed integers
number [] zero = refl
number [] (suc k) = refl
number (x ∷ xs) zero = refl
number (x ∷ xs) (suc k) = number xs k

-- a number has up to 19 bytes more than its mark; where there is none, 0 has none more
pub longer : (k n : ℕ) → 19 * min k n + pick (ltb k n) 19 0 ≤ 19 * min (k + 1) n
longer k n = ⊎_elim (λ h. rw (lt-ltb k n h) (omega arith)) (λ h. rw (le-ltb k n h) (omega arith)) (lt_or_le k n)
