-- What holds of every reading, whatever it reads.
use Rattle.std.specs.Prelude.{◌≡◌, true, false, List, ℕ, ◌≤◌, ◌<◌}
use Rattle.getbits.specs.Bits.{bit_at, bit_count, position}
use Rattle.getbits.specs.declared.Place.{Place}

-- t has the bits of s from i up to j
pub record Agree (s t : List ℕ) (i j : ℕ) : Type 0 where
  pub there : j ≤ bit_count t
  pub same : (k : ℕ) → i ≤ k → k < j → bit_at t k ≡ bit_at s k

-- a reading f, with the place after it
pub record Sound {R : Type 0} (next : R → Place) (f : List ℕ → Place → R) : Type 0 where
  -- the position after: never before the place, and never past the last bit
  pub forward : (s : List ℕ) (p : Place) → position s p ≤ position s (next (f s p))
  pub within : (s : List ℕ) (p : Place) → position s (next (f s p)) ≤ bit_count s
  -- the error never clears
  pub kept : (s : List ℕ) (p : Place) → p.error ≡ true → (next (f s p)).error ≡ true
  -- no error after it means that the bits were there: a reading depends only on the bits that it used,
  -- and reads the same from any data with them
  pub local : (s t : List ℕ) (p : Place) → (next (f s p)).error ≡ false → position t p ≡ position s p
      → Agree s t (position s p) (position s (next (f s p))) → f t p ≡ f s p
  pub steady : (s t : List ℕ) (p : Place) → (next (f s p)).error ≡ false → position t p ≡ position s p
      → Agree s t (position s p) (position s (next (f s p))) → position t (next (f s p)) ≡ position s (next (f s p))
