-- Laws of signed arguments and answers. Assumes nothing.
use mathlib.Core.Path.{◌≡◌, refl, sym, ap, ◌∙◌, subst}
use mathlib.Core.Bool.{Bool, true, false}
use mathlib.Core.List.{List}
use Prim.Native.Nat.{ℕ, zero, suc, ◌+◌, ◌-◌, ◌*◌, ◌^◌, ◌≤◌, ◌<◌}
use native.Mathlib.Nat.{zero-add, not-suc-le-zero, lt_of_le_of_lt}
use native.Mathlib.Omega.{arith}
use borrow.Author.Tests.{lt-ltb, le-ltb, ltb-true}
use lib.Dec.{T, lit<}
use lib.IntN.{ℤ, pos, negsuc, nat_abs, ◌-ℤ◌}
use lib.Pow.{pow_pos}
use lib.Signed.{lt_z, non_neg, mag, nat_abs-le}
use mir.Syntax.{w32}
use mir.Val.{Fits, SFits, to_z, of_z}
use mir.Facts.{to_z-of_z}
use Rattle.getbits.specs.Bits.{refused, get_bits, signed_of}
use Rattle.getbits.specs.declared.Place.{Place}
use Rattle.getbits.specs.declared.Read.{Read}
use Rattle.getbits.proofs.Places.{lt_or_le}
use Rattle.getbits.proofs.Callers.{width_over, as_read, read_none, read_lt}
use mathlib.Core.Logic.{⊎_elim}

-- a number that is not negative is itself without its sign
pub not_negative : (z : ℤ) → lt_z z (pos 0) ≡ false → T (non_neg z) × (pos (nat_abs z) ≡ z)
not_negative (pos n) h = (tt, refl)
not_negative (negsuc n) h = let x : ◌≡◌ {A = Bool} true false = h in absurd (subst T x tt)

pub nat_abs_fits : (z : ℤ) → SFits w32 z → Fits w32 (nat_abs z)
nat_abs_fits z h = record { fits = lt_of_le_of_lt {m = 2 ^ 31} (nat_abs-le z h.sfits) (lit< tt) }

-- a negative width is refused
pub width_negative : (s : List ℕ) (p : Place) (z : ℤ) → lt_z z (pos 0) ≡ true → refused s p ≡ get_bits s p z
unfolding get_bits
width_negative s p (pos n) h = absurd (not-suc-le-zero (ltb-true n 0 h))
width_negative s p (negsuc n) h = refl

-- an answer other than 0 came from a width of 1 to 32, and is below 2 ^ width
pub bits_known : (s : List ℕ) (p : Place) (z : ℤ) (r : Read ℕ) → r ≡ get_bits s p z → (r.value ≡ 0 → ⊥)
    → T (non_neg z) × (1 ≤ nat_abs z) × (nat_abs z ≤ 32) × (r.value < 2 ^ nat_abs z)
bits_known s p (pos zero) r e h = absurd (h (ap (λ (x : Read ℕ). x.value) (as_read s p 0 (omega arith) e ∙ read_none s p)))
bits_known s p (pos (suc n)) r e h =
    ⊎_elim (λ k. absurd (h (ap (λ (x : Read ℕ). x.value) (e ∙ sym (width_over s p (suc n) k)))))
    (λ k. (tt, omega arith, k, rw (as_read s p (suc n) k e) (read_lt s p (suc n))))
    (lt_or_le 32 (suc n))
bits_known s p (negsuc n) r e h = absurd (h (ap (λ (x : Read ℕ). x.value) (e ∙ sym (width_negative s p (negsuc n) refl))))

-- a signed number that a call returned, read back from its bits
pub back : (z : ℤ) → mag z < 2 ^ 31 → to_z w32 (of_z w32 z) ≡ z
back z h = to_z-of_z {w = w32} (record { sfits = h })

-- -1 - x
pub minus_one : (x : ℕ) → negsuc 0 -ℤ pos x ≡ negsuc x
minus_one zero = refl
minus_one (suc x) = ap (λ (k : ℕ). negsuc (suc k)) (zero-add x)

-- a - b below 0
pub less : (a b : ℕ) → a < b → negsuc (b - 1 - a) ≡ pos a -ℤ pos b
less a zero h = absurd (not-suc-le-zero h)
less a (suc b) h = rw (lt-ltb a (suc b) h) (ap negsuc (omega arith))

-- how far a - b is from 0
pub difference : (a b m : ℕ) → a < b + m → b ≤ m → 0 < m → mag (pos a -ℤ pos b) < m
difference a zero m h k l = omega arith
difference a (suc b) m h k l =
    ⊎_elim (λ u. rw (lt-ltb a (suc b) u) (omega arith)) (λ u. rw (le-ltb a (suc b) u) (omega arith)) (lt_or_le a (suc b))

module _ (n v : ℕ) where
  pub sign_below : 2 * v < 2 ^ n → pos v ≡ signed_of n v
  unfolding signed_of
  sign_below h = rw (lt-ltb (2 * v) (2 ^ n) h)

  pub sign_above : 2 ^ n ≤ 2 * v → v < 2 ^ n → negsuc (2 ^ n - 1 - v) ≡ signed_of n v
  unfolding signed_of
  sign_above h k = rw (le-ltb (2 * v) (2 ^ n) h) (less v (2 ^ n) k)

pub sign_zero : (n : ℕ) → pos 0 ≡ signed_of n 0
sign_zero n = sign_below n 0 (pow_pos n)
