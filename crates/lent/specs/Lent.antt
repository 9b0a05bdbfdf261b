-- What a caller of the C interface lends: flags in bytes, and a reader's place as a position in bits and an error.
use Rattle.std.specs.Prelude.{ℕ, ◌+◌, ◌*◌, ◌%◌, ◌^◌, Bool, not, List, [], ◌∷◌, ◌==◌}
use Rattle.getbits.specs.Bits.{place_at}
use Rattle.getbits.specs.Chain.{pick}
use Rattle.getbits.specs.declared.Place.{Place}

-- which byte counts as a set flag: any but 0
abbrev pub is_set : ℕ → Bool
is_set flag = not (flag == 0)

-- the place with `position` bits before it, and the error that a byte says
abbrev pub place_of : ℕ → ℕ → Place
place_of position error = place_at position (is_set error)

-- how many bits stand before a place, counted modulo 2^64: the number itself wherever the bytes are fewer than 2^61
abbrev pub position_of : Place → ℕ
position_of p = (8 * p.byte + p.used) % 2 ^ 64

-- the error's byte after an operation that leaves the reader's error as e: as it was if it is set already, else 1 if e is set and 0 if not
abbrev pub error_after : Bool → ℕ → ℕ
error_after e error = pick (is_set error) error (pick e 1 0)

-- a place as it is handed back to a caller whose error's byte was `error`: its position, and the error's byte after
abbrev pub lent_place : Place → ℕ → List ℕ
lent_place p error = position_of p ∷ error_after p.error error ∷ []
