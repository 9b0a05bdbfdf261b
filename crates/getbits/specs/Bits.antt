-- The bits of a byte string, the places in it, and the readings of a given width: document 01, getbits.rs.
use Rattle.std.specs.Prelude.{ℕ, zero, suc, ◌+◌, ◌-◌, ◌*◌, ◌/◌, ◌%◌, ◌^◌, min, List, Bool, true, false, length, get_or, ltb, leb, eqb, ℤ, pos, negsuc, nat_abs, ◌-ℤ◌}
use Rattle.getbits.specs.Chain.{pick}
use Rattle.getbits.specs.declared.Place.{Place}
use Rattle.getbits.specs.declared.Read.{Read}

-- bit i of the bytes s; bit 0 is the most significant of the first byte
abbrev pub bit_at : List ℕ → ℕ → ℕ
bit_at s i = get_or s (i / 8) 0 / 2 ^ (7 - i % 8) % 2

-- the number that the n bits from bit i on write, the most significant first
unfoldable pub bits_at : List ℕ → ℕ → ℕ → ℕ
bits_at s i zero = 0
bits_at s i (suc n) = 2 * bits_at s i n + bit_at s (i + n)

-- how many bits s has
abbrev pub bit_count : List ℕ → ℕ
bit_count s = 8 * length s

-- how many bits of s stand before a place; one past the last bit, or with more than 7 bits used, counts as the end
unfoldable pub position : List ℕ → Place → ℕ
position s p = pick (ltb p.used 8) (min (8 * p.byte + p.used) (bit_count s)) (bit_count s)

-- the place with k bits before it, and the error e
abbrev pub place_at : ℕ → Bool → Place
place_at k e = record { byte = k / 8; used = k % 8; error = e }

-- the place after an operation that uses no bit: the same place, or the end if it counts as the end
abbrev pub settled : List ℕ → Place → Place
settled s p = place_at (position s p) p.error

-- a wrong argument: the error is set, the answer is 0, and no bit is used
abbrev pub refused : List ℕ → Place → Read ℕ
refused s p = record { value = 0; next = place_at (position s p) true }

-- the bits run out: all are used up, the error is set, and the answer is 0
abbrev pub run_out : List ℕ → Read ℕ
run_out s = record { value = 0; next = place_at (bit_count s) true }

-- n bits; if fewer remain, they run out, and the answer is not a padded value
unfoldable pub read_bits : List ℕ → Place → ℕ → Read ℕ
read_bits s p n =
    pick (leb (position s p + n) (bit_count s))
    (record { value = bits_at s (position s p) n; next = place_at (position s p + n) p.error })
    (run_out s)

-- n bits, at most 32, of which none is used: 0 for each past the end
unfoldable pub look_at : List ℕ → Place → ℕ → ℕ
look_at s p n = pick (leb n 32) (bits_at s (position s p) n) 0

-- get_bit: one bit; at the end, 0 and error
unfoldable pub get_bit : List ℕ → Place → Read ℕ
get_bit s p = read_bits s p 1

-- get_bits(n): n bits for n from 0 to 32; any other n is a wrong argument
unfoldable pub get_bits : List ℕ → Place → ℤ → Read ℕ
get_bits s p (pos n) = pick (leb n 32) (read_bits s p n) (refused s p)
get_bits s p (negsuc n) = refused s p

-- the number of n bits with the top one as sign: v from 2 ^ (n - 1) on means v - 2 ^ n
unfoldable pub signed_of : ℕ → ℕ → ℤ
signed_of n v = pick (ltb (2 * v) (2 ^ n)) (pos v) (pos v -ℤ pos (2 ^ n))

-- get_sbits(n): the same as get_bits(n), with the top bit as sign
unfoldable pub get_sbits : List ℕ → Place → ℤ → Read ℤ
get_sbits s p n = record { value = signed_of (nat_abs n) (get_bits s p n).value; next = (get_bits s p n).next }

-- byte_pos: the Rust's number; while bits of a byte are held, it is the byte behind it
unfoldable pub byte_pos : List ℕ → Place → ℕ
byte_pos s p = (position s p + 7) / 8

-- bytealign: the held bits are dropped
unfoldable pub byte_align : List ℕ → Place → Place
byte_align s p = place_at (8 * byte_pos s p) p.error

-- A field that is there only under a condition: else 0, and the place as it was.
unfoldable pub bits_if : Bool → List ℕ → Place → ℤ → Read ℕ
bits_if true s p n = get_bits s p n
bits_if false s p n = record { value = 0; next = p }

-- a bit as a flag
unfoldable pub get_flag : List ℕ → Place → Read Bool
get_flag s p = record { value = eqb (get_bit s p).value 1; next = (get_bit s p).next }

-- a flag that is there only under a condition: else false, and the place as it was
unfoldable pub flag_if : Bool → List ℕ → Place → Read Bool
flag_if true s p = get_flag s p
flag_if false s p = record { value = false; next = p }
