-- Laws of sums and differences of signed numbers. Assumes nothing.
use mathlib.Core.Path.{◌≡◌, ap, ◌∙◌}
use mathlib.Core.Logic.{⊎_elim}
use Prim.Native.Nat.{ℕ, zero, suc, ◌+◌, ◌≤◌, ◌<◌}
use native.Mathlib.Nat.{le_refl, lt_of_lt_of_le}
use native.Mathlib.Omega.{arith}
use borrow.Author.Tests.{lt-ltb, le-ltb}
use lib.Dec.{lit≤}
use lib.IntN.{ℤ, pos, negsuc, sub_ℕ, ◌+ℤ◌, ◌-ℤ◌}
use lib.Signed.{mag}
use mir.Syntax.{w32, w64}
use mir.Val.{SFits, to_z, of_z}
use mir.Facts.{to_z-of_z}
use Rattle.getbits.proofs.Places.{lt_or_le}

sub_mag : (a b : ℕ) → mag (sub_ℕ a (suc b)) ≤ a + b
sub_mag a b = ⊎_elim (λ h. rw (lt-ltb a (suc b) h) (omega arith)) (λ h. rw (le-ltb a (suc b) h) (omega arith)) (lt_or_le a (suc b))

-- a sum with an unsigned number
pub add_mag : (z : ℤ) (n : ℕ) → mag (z +ℤ pos n) ≤ mag z + n
add_mag (pos a) n = le_refl (a + n)
add_mag (negsuc a) n = omega (arith, sub_mag n a)

-- a difference of two unsigned numbers below m
pub difference_lt : (a b m : ℕ) → a < m → b < m → mag (pos a -ℤ pos b) < m
difference_lt a zero m h k = omega arith
difference_lt a (suc b) m h k =
    ⊎_elim (λ l. rw (lt-ltb a (suc b) l) (omega arith)) (λ l. rw (le-ltb a (suc b) l) (omega arith)) (lt_or_le a (suc b))

-- a signed number of 32 bits in 64
pub widened : (z : ℤ) → SFits w32 z → SFits w64 z
widened z h = record { sfits = lt_of_lt_of_le h.sfits (lit≤ tt) }

pub through_64 : (z : ℤ) → SFits w32 z → to_z w64 (of_z w64 (to_z w32 (of_z w32 z))) ≡ z
through_64 z h = ap (λ (x : ℤ). to_z w64 (of_z w64 x)) (to_z-of_z h) ∙ to_z-of_z (widened z h)
