-- Numbers that stand side by side, out of one that has all their bits. Assumes nothing.
use mathlib.Core.List.{List}
use mathlib.Core.Bool.{Bool, true}
use mathlib.Core.Path.{◌≡◌, sym, ap, ◌∙◌}
use Prim.Native.Nat.{ℕ, ◌+◌, ◌-◌, ◌*◌, ◌/◌, ◌%◌, ◌^◌, ◌≤◌}
use native.Mathlib.Nat.{add_assoc}
use native.Mathlib.Omega.{arith}
use borrow.Author.Tests.{le-leb, ltb-true}
use lib.Dec.{ltb, eqb}
use lib.IntN.{pos}
use lib.Pow.{high, low}
use Rattle.getbits.specs.Bits.{bits_at, bit_count, position, place_at, read_bits, look_at, get_bit, get_bits, get_flag}
use Rattle.getbits.specs.declared.Read.{Read}
use Rattle.getbits.specs.declared.Place.{Place}
use Rattle.getbits.proofs.Callers.{width_in, read_there}
use Rattle.getbits.proofs.Chain.{taken}
use Rattle.getbits.proofs.Fields.{bits_lt, bits_add, window, shift_field}
use Rattle.getbits.proofs.Places.{pos_at}

-- where more than n bits are left, n are there
pub more_there : (s : List ℕ) (p : Place) (n : ℕ) {r : Bool} → r ≡ ltb (position s p + n) (bit_count s) → r ≡ true → position s p + n ≤ bit_count s
more_there s p n e t = omega (arith, ltb-true (position s p + n) (bit_count s) (sym e ∙ t))

-- what is looked at
pub look_bits : (s : List ℕ) (p : Place) (n : ℕ) {w : ℕ} → n ≤ 32 → w ≡ look_at s p n → w ≡ bits_at s (position s p) n
unfolding look_at
look_bits s p n h e = e ∙ taken _ _ _ (le-leb n 32 h)

-- skip, where the bits are there
pub skip_there : (s : List ℕ) (p : Place) (n : ℕ) {r : Place} → position s p + n ≤ bit_count s → r ≡ (read_bits s p n).next → r ≡ place_at (position s p + n) p.error
skip_there s p n h e = e ∙ ap (λ (x : Read ℕ). x.next) (read_there s p n h)

-- m bits and then n, which w has side by side, behind a place
module _ (s : List ℕ) (p : Place) (m n w : ℕ) (room : position s p + (m + n) ≤ bit_count s) (e : w ≡ bits_at s (position s p) (m + n)) where
  pub first_bits : w / 2 ^ n ≡ bits_at s (position s p) m
  first_bits = rw (e, bits_add s (position s p) m n) (high (bits_at s (position s p) m) n (bits_lt s (position s p + m) n))

  pub last_bits : w % 2 ^ n ≡ bits_at s (position s p + m) n
  last_bits = rw (e, bits_add s (position s p) m n) (low (bits_at s (position s p) m) n (bits_lt s (position s p + m) n))

  pub first_read : m ≤ 32 → get_bits s p (pos m) ≡ record { value = w / 2 ^ n; next = place_at (position s p + m) p.error }
  first_read h = sym (width_in s p m h) ∙ read_there s p m (omega arith) ∙ rw first_bits

  pub last_read : n ≤ 32 → get_bits s (place_at (position s p + m) p.error) (pos n) ≡ record { value = w % 2 ^ n; next = place_at (position s p + (m + n)) p.error }
  last_read h =
      let q = place_at (position s p + m) p.error in
      let at : position s q ≡ position s p + m = pos_at s (position s p + m) p.error (omega arith) in
      sym (width_in s q n h) ∙ read_there s q n (omega (arith, at)) ∙ rw (at, last_bits, add_assoc (position s p) m n)

-- the n bits behind the first u of the t that w has, which a shift moves to the front
pub shifted_bits : (s : List ℕ) (i u n t : ℕ) {w : ℕ} → u + n ≤ t → w ≡ bits_at s i t → w * 2 ^ u % 2 ^ t / 2 ^ (t - n) ≡ bits_at s (i + u) n
shifted_bits s i u n t {w} h e =
    shift_field w u n t h ∙ ap (λ (z : ℕ). z / 2 ^ (t - (u + n)) % 2 ^ n) e ∙ window s i u n (t - (u + n)) t (omega arith)

-- a flag, from its bit
pub flag_read : (s : List ℕ) (p : Place) {r : Read ℕ} → get_bits s p (pos 1) ≡ r → get_flag s p ≡ record { value = eqb r.value 1; next = r.next }
unfolding get_flag get_bit
flag_read s p e = rw (width_in s p 1 (omega arith) ∙ e)
