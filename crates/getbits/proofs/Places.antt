-- Laws of places, and how an answer that the code makes is shown to be a reading. Assumes nothing.
use mathlib.Core.Path.{◌≡◌, refl, sym, ap, ◌∙◌}
use mathlib.Core.List.{List}
use mathlib.Core.Logic.{◌⊎◌, inl, inr, ⊎_elim}
use mathlib.Core.Bool.{Bool, true}
use Prim.Native.Nat.{ℕ, zero, suc, ◌+◌, ◌-◌, ◌*◌, ◌/◌, ◌%◌, ◌^◌, ◌≤◌, ◌<◌, min, zero-le, suc-le-suc}
use native.Mathlib.Nat.{le_refl}
use native.Mathlib.Omega.{arith}
use borrow.Author.Tests.{lt-ltb, le-ltb, le-leb, lt-leb}
use lib.Dec.{ltb}
use lib.ListN.{length, get_or}
use Rattle.getbits.specs.Bits.{bit_at, bits_at, bit_count, position, place_at, settled, run_out, read_bits, look_at}
use Rattle.getbits.specs.declared.Place.{Place}
use Rattle.getbits.proofs.Chain.{picked, taken}
use Rattle.getbits.proofs.Fields.{bits_one, bit_of_lem}

pub lt_or_le : (a b : ℕ) → (a < b) ⊎ (b ≤ a)
lt_or_le a zero = inr zero-le
lt_or_le zero (suc b) = inl (omega arith)
lt_or_le (suc a) (suc b) = ⊎_elim (λ p. inl (suc-le-suc p)) (λ q. inr (suc-le-suc q)) (lt_or_le a b)

module _ (s : List ℕ) (p : Place) where
  pub pos_in : p.byte < length s → p.used < 8 → position s p ≡ 8 * p.byte + p.used
  unfolding position
  pos_in h k = rw (lt-ltb _ _ k) (omega arith)

  pub pos_past : length s ≤ p.byte → position s p ≡ bit_count s
  unfolding position
  pos_past h = ⊎_elim (λ k. rw (lt-ltb p.used 8 k) (omega arith)) (λ k. rw (le-ltb p.used 8 k)) (lt_or_le p.used 8)

  pub pos_over : 8 ≤ p.used → position s p ≡ bit_count s
  unfolding position
  pos_over h = rw (le-ltb _ _ h)

  -- a place before the end has a byte, and bits of it left
  pub pos_before : position s p < bit_count s → (p.byte < length s) × (p.used < 8)
  pos_before h = (
    ⊎_elim (λ a. a) (λ a. absurd (omega (arith, pos_past a))) (lt_or_le p.byte (length s)),
    ⊎_elim (λ a. a) (λ a. absurd (omega (arith, pos_over a))) (lt_or_le p.used 8),
  )

  -- a place stands within the data
  pub pos_le : position s p ≤ bit_count s
  unfolding position
  pos_le =
      picked (λ (k : ℕ). k ≤ bit_count s) (ltb p.used 8) (min (8 * p.byte + p.used) (bit_count s)) (bit_count s) (λ _. omega arith) (λ _. le_refl (bit_count s))

-- the place with k bits before it has k bits before it
pub pos_at : (s : List ℕ) (k : ℕ) (e : Bool) → k ≤ bit_count s → position s (place_at k e) ≡ k
unfolding position
pos_at s k e h = rw (lt-ltb (k % 8) 8 (omega arith)) (omega arith)

-- b bytes and u bits
pub place_at_lem : (b u k : ℕ) (e : Bool) → 8 * b + u ≡ k → u < 8 → record { byte = b; used = u; error = e } ≡ place_at k e
place_at_lem b u k e f h =
    let d : k / 8 ≡ b = omega arith in
    let m : k % 8 ≡ u = omega arith in
    rw (d, m)

pub place_end : (s : List ℕ) (e : Bool) → record { byte = length s; used = 0; error = e } ≡ place_at (bit_count s) e
place_end s e = place_at_lem (length s) 0 (bit_count s) e (omega arith) (omega arith)

pub ran_out : (s : List ℕ) → record { value = 0; next = record { byte = length s; used = 0; error = true } } ≡ run_out s
ran_out s = ap (λ (q : Place). record { value = 0; next = q }) (place_end s true)

pub settled_in : (s : List ℕ) (p : Place) → p.byte < length s → p.used < 8 → p ≡ settled s p
settled_in s p h k = place_at_lem p.byte p.used (position s p) p.error (sym (pos_in s p h k)) k

pub settled_end : (s : List ℕ) (p : Place) → position s p ≡ bit_count s → record { byte = length s; used = 0; error = p.error } ≡ settled s p
settled_end s p h = rw h (place_end s p.error)

-- n bits that are there
pub read_in : (s : List ℕ) (p : Place) (n : ℕ) {v b u : ℕ} {t : Bool}
    → position s p + n ≤ bit_count s → v ≡ bits_at s (position s p) n → 8 * b + u ≡ position s p + n → u < 8 → t ≡ p.error
    → record { value = v; next = record { byte = b; used = u; error = t } } ≡ read_bits s p n
unfolding read_bits
read_in s p n {v} {b} {u} h e f g x =
    rw (le-leb (position s p + n) (bit_count s) h, e, x)
    (ap (λ (q : Place). record { value = bits_at s (position s p) n; next = q }) (place_at_lem b u (position s p + n) p.error f g))

-- n bits that are not all there
pub read_short : (s : List ℕ) (p : Place) (n : ℕ) → bit_count s < position s p + n → run_out s ≡ read_bits s p n
unfolding read_bits
read_short s p n h = rw (lt-leb (position s p + n) (bit_count s) h)

-- one bit
pub read_one : (s : List ℕ) (p : Place) {v b u : ℕ}
    → p.byte < length s → p.used < 8 → v ≡ get_or s p.byte 0 / 2 ^ (7 - p.used) % 2 → 8 * b + u ≡ 8 * p.byte + p.used + 1 → u < 8
    → record { value = v; next = record { byte = b; used = u; error = p.error } } ≡ read_bits s p 1
read_one s p h k e f g =
    let at = pos_in s p h k in
    read_in s p 1 (omega (arith, at)) (e ∙ sym (bits_one s _ ∙ ap (bit_at s) at ∙ bit_of_lem s p.byte p.used k)) (omega (arith, at)) g refl

-- the bits behind a settled place are the reading
pub read_at : (s : List ℕ) (p q : Place) (n : ℕ) {v : ℕ} → q ≡ settled s p → 8 * q.byte + q.used + n ≤ bit_count s → v ≡ bits_at s (8 * q.byte + q.used) n
    → record { value = v; next = record { byte = q.byte + (q.used + n) / 8; used = (q.used + n) % 8; error = p.error } } ≡ read_bits s p n
read_at s p q n e h g =
    let b = ap (λ (x : Place). x.byte) e in
    let u = ap (λ (x : Place). x.used) e in
    let at : 8 * q.byte + q.used ≡ position s p = omega (arith, b, u) in
    read_in s p n (omega arith) (g ∙ ap (λ (i : ℕ). bits_at s i n) at) (omega arith) (omega arith) refl

-- the bits behind the settled place are what is looked at
pub looked : (s : List ℕ) (p q : Place) (n : ℕ) {r : ℕ} → q ≡ settled s p → n ≤ 32 → r ≡ bits_at s (8 * q.byte + q.used) n → r ≡ look_at s p n
unfolding look_at
looked s p q n e h f =
    let b = ap (λ (x : Place). x.byte) e in
    let u = ap (λ (x : Place). x.used) e in
    let at : 8 * q.byte + q.used ≡ position s p = omega (arith, b, u) in
    f ∙ ap (λ (i : ℕ). bits_at s i n) at ∙ sym (taken _ _ _ (le-leb n 32 h))
