-- What the private functions over whole bytes compute. No public contract cites it.
use Rattle.std.specs.Prelude.{ℕ, ◌+◌, ◌*◌, ◌^◌, List, get_or}

-- the four bytes of s from i on as one number, the first most significant; 0 for each past the end
abbrev pub four_bytes : List ℕ → ℕ → ℕ
four_bytes s i = get_or s i 0 * 2 ^ 24 + get_or s (i + 1) 0 * 2 ^ 16 + get_or s (i + 2) 0 * 2 ^ 8 + get_or s (i + 3) 0

-- eight bytes
abbrev pub eight_bytes : List ℕ → ℕ → ℕ
eight_bytes s i = four_bytes s i * 2 ^ 32 + four_bytes s (i + 4)
