-- Rows of bits: where they stand in a byte string, which a reading used, and the bytes that they make. A bit is 0 or 1.
use Rattle.std.specs.Prelude.{◌≡◌, false, List, ℕ, ◌+◌, ◌-◌, ◌*◌, ◌/◌, ◌≤◌, ◌<◌, length, get_or, take, drop}
use Rattle.getbits.specs.Bits.{bit_at, bit_count, position}
use Rattle.getbits.specs.declared.Place.{Place}
use Rattle.laws.specs.AllBits.{all_bits}
use Rattle.tile_layout.specs.Layout.{tabulate}

-- the bits of s from bit i on begin with these, and they are all there
pub record StandsAt (s : List ℕ) (i : ℕ) (bits : List ℕ) : Type 0 where
  pub there : i + length bits ≤ bit_count s
  pub same : (k : ℕ) → k < length bits → bit_at s (i + k) ≡ get_or bits k 0

-- from place p to place q just these bits were used, and the error is as it was
pub record Used (s : List ℕ) (p q : Place) (bits : List ℕ) : Type 0 where
  pub stands : StandsAt s (position s p) bits
  pub ends : position s q ≡ position s p + length bits
  pub error : q.error ≡ p.error

-- the bits between two places
abbrev pub used_bits : List ℕ → Place → Place → List ℕ
used_bits s p q = take (position s q - position s p) (drop (position s p) (all_bits s))

-- eight bits as a byte, the first most significant
abbrev pub byte_of : (ℕ → ℕ) → ℕ
byte_of b = 128 * b 0 + 64 * b 1 + 32 * b 2 + 16 * b 3 + 8 * b 4 + 4 * b 5 + 2 * b 6 + b 7

-- the first n bytes of a row of bits, with a zero bit for each that it lacks
unfoldable pub bytes_of : ℕ → List ℕ → List ℕ
bytes_of n bits = tabulate (λ j. byte_of (λ k. get_or bits (8 * j + k) 0)) 0 n

-- how many bytes a row of bits takes
abbrev pub byte_count : List ℕ → ℕ
byte_count bits = (length bits + 7) / 8

-- a row of bits, padded with zero bits to a byte
abbrev pub packed : List ℕ → List ℕ
packed bits = bytes_of (byte_count bits) bits

-- `code v` are the bits of v for the reading f, which gives a value and the place after it
pub record Code {R A : Type 0} (value : R → A) (next : R → Place) (f : List ℕ → Place → R) (code : A → List ℕ) (Given : A → Type 0) : Type 0 where
  -- where the bits of v stand, v is read, and just they are used
  pub reads : (s : List ℕ) (p : Place) (v : A) → Given v → StandsAt s (position s p) (code v) → (value (f s p) ≡ v) × Used s p (next (f s p)) (code v)
  -- a reading with no error after it used the bits of what it gives
  pub used : (s : List ℕ) (p : Place) → (next (f s p)).error ≡ false → Used s p (next (f s p)) (code (value (f s p)))
