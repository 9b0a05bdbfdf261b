-- What callers may use of a reading: its value's bound, where it ends, its error, and what it depends on; and of `power`. Assumes nothing.
use mathlib.Core.Path.{◌≡◌, refl, sym, ap, ◌∙◌, subst}
use mathlib.Core.List.{List}
use mathlib.Core.Bool.{true, false}
use mathlib.Core.Logic.{⊎_elim}
use Prim.Native.Nat.{ℕ, zero, suc, ◌+◌, ◌-◌, ◌*◌, ◌%◌, ◌^◌, ◌≤◌, ◌<◌, min}
use native.Mathlib.Nat.{le_refl, add-zero}
use native.Mathlib.Omega.{arith}
use borrow.Author.Tests.{le-leb, lt-leb, leb-true, leb-false}
use lib.Dec.{T, leb}
use lib.IntN.{pos}
use lib.ListN.{length}
use lib.Pow.{pow_pos}
use Rattle.getbits.specs.Bits.{bit_at, bits_at, bit_count, position, place_at, settled, refused, run_out, read_bits, get_bit, get_bits, byte_pos}
use Rattle.getbits.specs.declared.Place.{Place}
use Rattle.getbits.specs.declared.Read.{Read}
use Rattle.getbits.proofs.Chain.{picked}
use Rattle.getbits.proofs.Fields.{bits_lt, bits_add, bits_one, bit_past}
use Rattle.getbits.proofs.Places.{lt_or_le, pos_le, pos_at, read_short}

-- a width of at most 32 is read, and a larger one refused
pub width_in : (s : List ℕ) (p : Place) (n : ℕ) → n ≤ 32 → read_bits s p n ≡ get_bits s p (pos n)
unfolding get_bits
width_in s p n h = rw (le-leb n 32 h)

pub width_over : (s : List ℕ) (p : Place) (n : ℕ) → 32 < n → refused s p ≡ get_bits s p (pos n)
unfolding get_bits
width_over s p n h = rw (lt-leb n 32 h)

-- what read_bits answers at such a width is the reading
pub as_read : (s : List ℕ) (p : Place) (n : ℕ) {r : Read ℕ} → n ≤ 32 → r ≡ get_bits s p (pos n) → r ≡ read_bits s p n
as_read s p n h e = e ∙ sym (width_in s p n h)

-- no bits: 0, and the place as it is
pub read_none : (s : List ℕ) (p : Place) → read_bits s p 0 ≡ record { value = 0; next = settled s p }
unfolding read_bits bits_at
read_none s p = rw (add-zero, le-leb (position s p) (bit_count s) (pos_le s p))

-- n bits that are there
pub read_there : (s : List ℕ) (p : Place) (n : ℕ) → position s p + n ≤ bit_count s
    → read_bits s p n ≡ record { value = bits_at s (position s p) n; next = place_at (position s p + n) p.error }
unfolding read_bits
read_there s p n h = rw (le-leb (position s p + n) (bit_count s) h)

-- n + 1 bits that are there are n bits and one more
pub read_more : (s : List ℕ) (p : Place) (n : ℕ) → position s p + (n + 1) ≤ bit_count s
    → (let b = get_bit s (read_bits s p n).next in
    (bits_at s (position s p) (n + 1) ≡ 2 * (read_bits s p n).value + b.value) × ((read_bits s p (n + 1)).next ≡ b.next))
unfolding get_bit
read_more s p n h =
    let k = position s p in
    let q = place_at (k + n) p.error in
    let at : position s q ≡ k + n = pos_at s (k + n) p.error (omega arith) in
    let e : k + (n + 1) ≡ k + n + 1 = omega arith in
    rw (read_there s p n (omega arith), read_there s p (n + 1) h, read_there s q 1 (omega (arith, at)), at, e) (omega (arith, bits_add s k n 1), refl)

-- a reading, with its question answered
pub read_cases : (P : Read ℕ → Type 0) (s : List ℕ) (p : Place) (n : ℕ)
    → (position s p + n ≤ bit_count s → P (record { value = bits_at s (position s p) n; next = place_at (position s p + n) p.error }))
    → (bit_count s < position s p + n → P (run_out s))
    → P (read_bits s p n)
unfolding read_bits
read_cases P s p n f g =
    picked P (leb (position s p + n) (bit_count s))
    (record { value = bits_at s (position s p) n; next = place_at (position s p + n) p.error })
    (run_out s)
    (λ e. f (leb-true (position s p + n) (bit_count s) e))
    (λ e. g (leb-false (position s p + n) (bit_count s) e))

-- n bits read a number below 2 ^ n
pub read_lt : (s : List ℕ) (p : Place) (n : ℕ) → (read_bits s p n).value < 2 ^ n
read_lt s p n = read_cases (λ (r : Read ℕ). r.value < 2 ^ n) s p n (λ _. bits_lt s (position s p) n) (λ _. pow_pos n)

pub bit_lt : (s : List ℕ) (p : Place) → (get_bit s p).value < 2
unfolding get_bit
bit_lt s p = read_lt s p 1

-- a reading ends n bits on, or at the end
pub read_pos : (s : List ℕ) (p : Place) (n : ℕ) → position s (read_bits s p n).next ≡ min (position s p + n) (bit_count s)
read_pos s p n =
    read_cases (λ (r : Read ℕ). position s r.next ≡ min (position s p + n) (bit_count s)) s p n
    (λ h. pos_at s (position s p + n) p.error h ∙ omega arith)
    (λ h. pos_at s (bit_count s) true (le_refl (bit_count s)) ∙ omega arith)

-- bits that are not all there lead to the end
ends : (s : List ℕ) (p : Place) (n : ℕ) → bit_count s < position s p + n → (read_bits s p n).next ≡ place_at (bit_count s) true
ends s p n h = ap (λ (r : Read ℕ). r.next) (sym (read_short s p n h))

-- m bits and then n lead as far as both together
pub read_join : (s : List ℕ) (p : Place) (m n : ℕ) → 1 ≤ n → (read_bits s (read_bits s p m).next n).next ≡ (read_bits s p (m + n)).next
read_join s p m n l =
    ⊎_elim (λ h. ends s (read_bits s p m).next n (omega (arith, read_pos s p m)) ∙ sym (ends s p (m + n) (omega arith)))
    (λ h.
    let at = pos_at s (position s p + m) p.error (omega arith) in
    let sum : position s p + m + n ≡ position s p + (m + n) = omega arith in
    rw (read_there s p m (omega arith), read_there s (place_at (position s p + m) p.error) n (omega (arith, at)), read_there s p (m + n) h, at, sum))
    (lt_or_le (bit_count s) (position s p + (m + n)))

-- one bit is the bit that stands there, and 0 at the end
pub bit_is : (s : List ℕ) (p : Place) → (get_bit s p).value ≡ bit_at s (position s p)
unfolding get_bit
bit_is s p =
    read_cases (λ (r : Read ℕ). r.value ≡ bit_at s (position s p)) s p 1
    (λ _. bits_one s (position s p))
    (λ h. sym (bit_past s (position s p) (omega arith)))

-- the bits behind it
pub bits_next : (s : List ℕ) (p : Place) (j : ℕ) → bit_at s (position s (get_bit s p).next + j) ≡ bit_at s (position s p + (1 + j))
unfolding get_bit
bits_next s p j =
    ⊎_elim (λ h. ap (bit_at s) (omega (arith, read_pos s p 1)))
    (λ h. bit_past s _ (omega (arith, read_pos s p 1)) ∙ sym (bit_past s (position s p + (1 + j)) (omega arith)))
    (lt_or_le (position s p) (bit_count s))

-- the error never clears
pub read_error : (s : List ℕ) (p : Place) (n : ℕ) → p.error ≡ true → (read_bits s p n).next.error ≡ true
read_error s p n e = read_cases (λ (r : Read ℕ). r.next.error ≡ true) s p n (λ h. e) (λ h. refl)

-- no error after it means that there was none before and all n bits were there
pub read_clean : (s : List ℕ) (p : Place) (n : ℕ) → (read_bits s p n).next.error ≡ false → (p.error ≡ false) × (position s p + n ≤ bit_count s)
read_clean s p n =
    read_cases (λ (r : Read ℕ). r.next.error ≡ false → (p.error ≡ false) × (position s p + n ≤ bit_count s)) s p n
    (λ h e. (e, h))
    (λ h e. absurd (subst T e tt))

-- a place that counts as the end reads as the end does
pub read_settled : (s : List ℕ) (p : Place) (n : ℕ) → read_bits s (settled s p) n ≡ read_bits s p n
unfolding read_bits
read_settled s p n = rw (pos_at s (position s p) p.error (pos_le s p))

-- the Rust's byte position is within the data
pub byte_pos_le : (s : List ℕ) (p : Place) → byte_pos s p ≤ length s
unfolding byte_pos
byte_pos_le s p = omega (arith, pos_le s p)

-- the same bits write the same number
pub bits_local : (s t : List ℕ) (i n : ℕ) → ((k : ℕ) → k < n → bit_at s (i + k) ≡ bit_at t (i + k)) → bits_at s i n ≡ bits_at t i n
unfolding bits_at
bits_local s t i zero h = refl
bits_local s t i (suc n) h = rw (bits_local s t i n (λ k l. h k (omega arith)), h n (omega arith))

-- power, where n is below 32
pub power_below : {r n : ℕ} → n < 32 → r ≡ 2 ^ (n % 32) → r ≡ 2 ^ n
power_below {r} {n} h e =
    let f : n % 32 ≡ n = omega arith in
    e ∙ ap (λ (x : ℕ). 2 ^ x) f
