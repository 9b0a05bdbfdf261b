-- What the programs read from their input.
use Rattle.std.specs.Prelude.{Bool, List, ℕ, ◌≡◌, ◌+◌, ◌*◌, ◌≤◌, leb, length, get_or, take}

-- the byte at i, and 0 past the end
abbrev pub byte_at : List ℕ → ℕ → ℕ
byte_at s i = get_or s i 0

-- a number of two bytes, little-endian
abbrev pub two_at : List ℕ → ℕ → ℕ
two_at s i = byte_at s i + 256 * byte_at s (i + 1)

-- 65,536 bytes at most
abbrev pub is_input : List ℕ → Bool
is_input s = leb (length s) 65536

-- `&xs[..n]` is in bounds and has n bytes
abbrev pub IsPrefixLen : ℕ → List ℕ → Type 0
IsPrefixLen n xs = (n ≤ length xs) × (n ≡ length (take n xs))
