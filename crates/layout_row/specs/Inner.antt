-- What the private functions leave. No public contract cites it.
use Rattle.std.specs.Prelude.{◌≡◌, List, ◌++◌, ℕ, ◌+◌, ◌-◌, ◌<◌, length, get_or}
use Rattle.layout_bits.specs.Rows.{bytes_of}

-- 177 bytes hold a row of `at` bits, each 0 or 1
pub record Holds (bytes : List ℕ) (at : ℕ) (row : List ℕ) : Type 0 where
  pub made : bytes ≡ bytes_of 177 row
  pub long : at ≡ length row
  pub small : (k : ℕ) → get_or row k 0 < 2

-- the row that the bytes hold has got these bits behind it, and ends at `end`
pub record Appended (before : List ℕ) (at : ℕ) (bits : List ℕ) (after : List ℕ) (end : ℕ) : Type 0 where
  pub ends : end ≡ at + length bits
  pub holds : (row : List ℕ) → Holds before at row → Holds after end (row ++ bits)

-- the size of tile i between starts
abbrev pub size_at : List ℕ → ℕ → ℕ
size_at starts i = get_or starts (i + 1) 0 - get_or starts i 0
