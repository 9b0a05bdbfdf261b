-- The readings of variable length: document 01, getbits.rs.
use Rattle.std.specs.Prelude.{ℕ, zero, suc, ◌+◌, ◌-◌, ◌*◌, ◌/◌, ◌%◌, ◌^◌, min, List, Bool, true, false, ◌&&◌, ltb, leb, eqb, ℤ, pos, nat_abs, ◌+ℤ◌, ◌-ℤ◌}
use Rattle.std.specs.Int.Count.{count_leading_zeros}
use Rattle.std.specs.Int.Signed.{le_z, lt_z}
use Rattle.getbits.specs.Chain.{pick, then}
use Rattle.getbits.specs.Bits.{settled, refused, read_bits, get_bit}
use Rattle.getbits.specs.declared.Place.{Place}
use Rattle.getbits.specs.declared.Read.{Read}

-- m and a reading's number
abbrev pub plus : ℕ → Read ℕ → Read ℕ
plus m r = record { value = m + r.value; next = r.next }

-- how many bits in a row are `bit`, at most k; the first that is not is used too
unfoldable pub run_of : ℕ → ℕ → List ℕ → Place → Read ℕ
run_of bit zero s p = record { value = 0; next = p }
run_of bit (suc k) s p =
    then (get_bit s p) λ b.
    pick (eqb b.value bit)
    (plus 1 (run_of bit k s b.next))
    (record { value = 0; next = b.next })

-- get_vlc: z zeros, a one, then z bits give 2 ^ z - 1 + those bits; 32 zeros give 4,294,967,295, and no one is looked for
unfoldable pub get_vlc : List ℕ → Place → Read ℕ
get_vlc s p =
    then (run_of 0 32 s p) λ z.
    pick (ltb z.value 32)
    (plus (2 ^ z.value - 1) (read_bits s z.next z.value))
    (record { value = 2 ^ 32 - 1; next = z.next })

-- the bit length of x, a number below 2 ^ 32
abbrev pub bit_length : ℕ → ℕ
bit_length x = 32 - count_leading_zeros 32 x

-- get_uniform(max): 0 for max at most 1; from 2 ^ 31 on a wrong argument; else l is the bit length of max, m = 2 ^ l - max
-- and v is l - 1 bits: v if v is below m, else 2 v - m + one bit
unfoldable pub get_uniform : List ℕ → Place → ℕ → Read ℕ
get_uniform s p max =
    pick (leb max 1) (record { value = 0; next = settled s p }) (
    pick (leb (2 ^ 31) max) (refused s p) (
    then (bit_length max) λ l.
    then (2 ^ l - max) λ m.
    then (read_bits s p (l - 1)) λ v.
    pick (ltb v.value m) v (
    then (get_bit s v.next) λ b.
    record { value = 2 * v.value - m + b.value; next = b.next })))

-- get_ref_uniform(max, def): the same limits; a bit 0 gives def, held to max - 1; else one of the other numbers below max
unfoldable pub get_ref_uniform : List ℕ → Place → ℕ → ℕ → Read ℕ
get_ref_uniform s p max def =
    pick (leb max 1) (record { value = 0; next = settled s p }) (
    pick (leb (2 ^ 31) max) (refused s p) (
    then (min def (max - 1)) λ d.
    then (get_bit s p) λ b.
    pick (eqb b.value 0) (record { value = d; next = b.next }) (
    then (get_uniform s b.next (max - 1)) λ r.
    record { value = pick (ltb r.value d) r.value (r.value + 1); next = r.next })))

-- a reading whose number is wrong: the error is set, and the answer is 0
abbrev pub failed : Read ℕ → Read ℕ
failed r = record { value = 0; next = record { byte = r.next.byte; used = r.next.used; error = true } }

-- at most t bytes, each with seven bits of the number, the lowest first, and a top bit that asks for a further byte
unfoldable pub uleb_from : ℕ → List ℕ → Place → Read ℕ
uleb_from zero s p = record { value = 0; next = p }
uleb_from (suc t) s p =
    then (read_bits s p 8) λ b.
    pick (ltb b.value 128) b
    (then (uleb_from t s b.next) λ rest. record { value = b.value - 128 + 128 * rest.value; next = rest.next })

-- get_uleb128: at most eight bytes; above 4,294,967,295 error and 0
unfoldable pub get_uleb128 : List ℕ → Place → Read ℕ
get_uleb128 s p = then (uleb_from 8 s p) λ r. pick (ltb r.value (2 ^ 32)) r (failed r)

-- get_golomb(k): k below 32, else a wrong argument; 32 - k ones give 4,294,967,295; fewer, c of them, and a zero give c * 2 ^ k + the next k bits
unfoldable pub get_golomb : List ℕ → Place → ℕ → Read ℕ
get_golomb s p k =
    pick (leb 32 k) (refused s p) (
    then (run_of 1 (32 - k) s p) λ c.
    pick (eqb (c.value + k) 32)
    (record { value = 2 ^ 32 - 1; next = c.next })
    (plus (c.value * 2 ^ k) (read_bits s c.next k)))

-- A number below n, in steps: v is what the steps before step i passed, and step i has 2 ^ b numbers, b being k, k, k + 1, k + 2 and on.
-- Where three steps as large reach n, the rest is read as uniform; else a bit 0 says that the number is in this step. At most t steps.
unfoldable pub subexp_from : ℕ → List ℕ → Place → ℕ → ℕ → ℕ → ℕ → Read ℕ
subexp_from zero s p n k i v = refused s p
subexp_from (suc t) s p n k i v =
    then (k + (i - 1)) λ b.
    pick (leb n (v + 3 * 2 ^ b)) (plus v (get_uniform s p (n - v))) (
    then (get_bit s p) λ g.
    pick (eqb g.value 0) (plus v (read_bits s g.next b))
    (subexp_from t s g.next n k (i + 1) (v + 2 ^ b)))

-- inv_recenter: 0 is r, 1 is r - 1, 2 is r + 1 and so on up to 2 r; a larger v is v itself
abbrev pub inv_recenter : ℕ → ℕ → ℕ
inv_recenter r v = pick (ltb (2 * r) v) v (pick (eqb (v % 2) 0) (v / 2 + r) (r - (v + 1) / 2))

-- get_bits_subexp_u(ref, n, k): k from 0 to 31, ref below n and n below 2 ^ 31, else a wrong argument;
-- the number is laid out around ref, or, where ref is in the upper half, both are counted down from n - 1
abbrev pub subexp_args : ℕ → ℕ → ℤ → Bool
subexp_args ref n k = (le_z (pos 0) k && lt_z k (pos 32)) && (ltb ref n && ltb n (2 ^ 31))

unfoldable pub get_bits_subexp_u : List ℕ → Place → ℕ → ℕ → ℤ → Read ℕ
get_bits_subexp_u s p ref n k =
    pick (subexp_args ref n k)
    (then (subexp_from 33 s p n (nat_abs k) 0 0) λ r.
    record {
      value = pick (leb (2 * ref) n) (inv_recenter ref r.value) (n - 1 - inv_recenter (n - 1 - ref) r.value);
      next = r.next;
    })
    (refused s p)

-- get_bits_subexp(ref, n): n from 1 to 2 ^ 30, and ref + n - 1 neither negative nor above the signed 32-bit range, else a wrong argument;
-- the unsigned form around ref + n - 1, below 2 n - 1 and with k = 3, less n - 1
abbrev pub subexp_range : ℕ → ℤ → Bool
subexp_range n x = (leb 1 n && leb n (2 ^ 30)) && (le_z (pos 0) x && lt_z x (pos (2 ^ 31)))

unfoldable pub get_bits_subexp : List ℕ → Place → ℤ → ℕ → Read ℤ
get_bits_subexp s p ref n =
    then (ref +ℤ pos (n - 1)) λ x.
    pick (subexp_range n x)
    (then (get_bits_subexp_u s p (nat_abs x) (2 * n - 1) (pos 3)) λ r. record { value = pos r.value -ℤ pos (n - 1); next = r.next })
    (record { value = pos 0; next = (refused s p).next })

-- A reading that is there only under a condition: else 0, and the place as it was.
unfoldable pub vlc_if : Bool → List ℕ → Place → Read ℕ
vlc_if true s p = get_vlc s p
vlc_if false s p = record { value = 0; next = p }

unfoldable pub uniform_if : Bool → List ℕ → Place → ℕ → Read ℕ
uniform_if true s p max = get_uniform s p max
uniform_if false s p max = record { value = 0; next = p }
