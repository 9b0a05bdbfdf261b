-- The bits of a byte string as a list, and the number that a list of bits writes.
use Rattle.std.specs.Prelude.{List, [], ◌∷◌, ℕ, ◌+◌, ◌*◌, ◌/◌, ◌%◌}

-- the bits of the bytes in a row, the most significant of each byte first
unfoldable pub all_bits : List ℕ → List ℕ
all_bits [] = []
all_bits (b ∷ s) =
    (b / 128 % 2) ∷ (b / 64 % 2) ∷ (b / 32 % 2) ∷ (b / 16 % 2)
    ∷ (b / 8 % 2) ∷ (b / 4 % 2) ∷ (b / 2 % 2) ∷ (b % 2)
    ∷ all_bits s

-- the number that bits write behind the number m
unfoldable pub number_on : ℕ → List ℕ → ℕ
number_on m [] = m
number_on m (x ∷ l) = number_on (2 * m + x) l
