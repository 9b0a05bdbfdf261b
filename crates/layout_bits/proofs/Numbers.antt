-- The numbers of a layout and their bits: of a given width, by get_uniform, and runs of ones. Assumes nothing.
use mathlib.Core.Path.{◌≡◌, refl, sym, ap, ◌∙◌}
use mathlib.Core.Bool.{false}
use mathlib.Core.List.{List, [], ◌∷◌, ◌++◌}
use mathlib.Core.Logic.{⊎_elim}
use Prim.Native.Nat.{ℕ, zero, suc, ◌+◌, ◌-◌, ◌*◌, ◌/◌, ◌%◌, ◌^◌, ◌≤◌, ◌<◌}
use native.Mathlib.Nat.{pow-suc}
use native.Mathlib.Omega.{arith}
use borrow.Author.Tests.{le-leb, lt-leb, lt-ltb, le-ltb, eq-eqb, ne_eqb}
use lib.Dec.{leb-suc-suc}
use lib.ListN.{length, length-append}
use Rattle.getbits.specs.Bits.{bit_at, bits_at, bit_count, position, settled, read_bits, get_bit}
use Rattle.getbits.specs.Chain.{then}
use Rattle.getbits.specs.declared.Place.{Place}
use Rattle.getbits.specs.declared.Read.{Read}
use Rattle.getbits.proofs.Places.{lt_or_le, pos_le, pos_at}
use Rattle.getbits.proofs.Callers.{read_there, read_clean, read_lt, bit_lt}
use Rattle.codes.specs.Codes.{plus, run_of, bit_length, get_uniform}
use Rattle.codes.proofs.Callers.{length_is}
use Rattle.tile_layout.specs.Layout.{read_log2}
use Rattle.layout_bits.specs.Rows.{StandsAt, Used, Code}
use Rattle.layout_bits.specs.Bits.{bits_of, shorter, uniform_code, ones_code, log_code}
use Rattle.layout_bits.specs.Readable.{InLog}
use Rattle.layout_bits.proofs.Rows.{split, join, single, none, behind, on}

abbrev value : Read ℕ → ℕ
value r = r.value

abbrev next : Read ℕ → Place
next r = r.next

-- ---- a given width

pub length_bits : (n v : ℕ) → length (bits_of n v) ≡ n
unfolding bits_of
length_bits zero v = refl
length_bits (suc n) v = omega (arith, length-append (bits_of n (v / 2)) (v % 2 ∷ []), length_bits n (v / 2))

bits_read : {s : List ℕ} {i : ℕ} (n v : ℕ) → v < 2 ^ n → StandsAt s i (bits_of n v) → bits_at s i n ≡ v
unfolding bits_of bits_at
bits_read zero v h st = omega arith
bits_read {s} {i} (suc n) v h st =
    let b = split (bits_of n (v / 2)) (v % 2 ∷ []) st in
    let last = b.1.same 0 (omega arith) in
    let e : i + length (bits_of n (v / 2)) + 0 ≡ i + n = omega (arith, length_bits n (v / 2)) in
    omega (arith, bits_read n (v / 2) (omega (arith, pow-suc 2 n)) b.0, ap (bit_at s) e, last)

bits_stand : (s : List ℕ) (i n : ℕ) → i + n ≤ bit_count s → StandsAt s i (bits_of n (bits_at s i n))
unfolding bits_of bits_at
bits_stand s i zero h = record { there = omega arith; same = λ k g. absurd (omega arith) }
bits_stand s i (suc n) h =
    let d : (2 * bits_at s i n + bit_at s (i + n)) / 2 ≡ bits_at s i n = omega arith in
    let m : (2 * bits_at s i n + bit_at s (i + n)) % 2 ≡ bit_at s (i + n) = omega arith in
    rw (d, m) (join (bits_of n (bits_at s i n)) (bit_at s (i + n) ∷ []) (bits_stand s i n (omega arith)) (rw (length_bits n (bits_at s i n)) (single (omega arith) refl)))

pub code_bits : (n : ℕ) → Code value next (λ s p. read_bits s p n) (bits_of n) (λ v. v < 2 ^ n)
code_bits n =
    record {
      reads = λ s p v h st.
          let l = length_bits n v in
          let r = read_there s p n (omega (arith, st.there)) in
          rw r (bits_read n v h st, record { stands = st; ends = pos_at s (position s p + n) p.error (omega (arith, st.there)) ∙ omega arith; error = refl });
      used = λ s p e.
          let h = (read_clean s p n e).1 in
          let l = length_bits n (bits_at s (position s p) n) in
          rw (read_there s p n h) (record { stands = bits_stand s (position s p) n h; ends = pos_at s (position s p + n) p.error h ∙ omega arith; error = refl });
    }

-- one bit
one_bit : (v : ℕ) → v < 2 → bits_of 1 v ≡ v ∷ []
unfolding bits_of
one_bit v h = ap (λ (x : ℕ). x ∷ []) (omega arith)

pub code_bit : Code value next get_bit (λ b. b ∷ []) (λ b. b < 2)
unfolding get_bit
code_bit =
    record {
      reads = λ s p v h st. rw (one_bit v h) at ((code_bits 1).reads s p v h (rw (one_bit v h) st));
      used = λ s p e. rw (one_bit (read_bits s p 1).value (read_lt s p 1)) at ((code_bits 1).used s p e);
    }

-- ---- get_uniform

module _ (s : List ℕ) (p : Place) (max : ℕ) where
  few : max ≤ 1 → get_uniform s p max ≡ record { value = 0; next = settled s p }
  unfolding get_uniform
  few h = rw (le-leb max 1 h)

  module _ (lo : 1 < max) (hi : max < 2 ^ 31) where
    abbrev head : Read ℕ
    head = read_bits s p (bit_length max - 1)

    abbrev last : Read ℕ
    last = get_bit s head.next

    short : head.value < shorter max → get_uniform s p max ≡ head
    unfolding get_uniform then
    short h = rw (lt-leb max 1 lo, lt-leb (2 ^ 31) max hi, lt-ltb head.value (shorter max) h)

    long : shorter max ≤ head.value → get_uniform s p max ≡ record { value = 2 * head.value - shorter max + last.value; next = last.next }
    unfolding get_uniform then
    long h = rw (lt-leb max 1 lo, lt-leb (2 ^ 31) max hi, le-ltb head.value (shorter max) h)

pub code_few : (max v : ℕ) → max ≤ 1 → uniform_code max v ≡ []
unfolding uniform_code
code_few max v h = rw (le-leb max 1 h)

module _ (max v : ℕ) (lo : 1 < max) where
  pub code_short : v < shorter max → uniform_code max v ≡ bits_of (bit_length max - 1) v
  unfolding uniform_code
  code_short h = rw (lt-leb max 1 lo, lt-ltb v (shorter max) h)

  pub code_later : shorter max ≤ v → uniform_code max v ≡ bits_of (bit_length max) (v + shorter max)
  unfolding uniform_code
  code_later h = rw (lt-leb max 1 lo, le-ltb v (shorter max) h) refl

  -- the bits read first, and one more
  code_long : 1 ≤ bit_length max → shorter max ≤ v → uniform_code max v ≡ bits_of (bit_length max - 1) ((v + shorter max) / 2) ++ ((v + shorter max) % 2 ∷ [])
  unfolding bits_of
  code_long l h =
      let e : bit_length max ≡ suc (bit_length max - 1) = omega arith in
      code_later h ∙ ap (λ (n : ℕ). bits_of n (v + shorter max)) e

module _ (max : ℕ) (lo : 1 < max) (hi : max < 2 ^ 31) where
  abbrev l : ℕ
  l = bit_length max

  abbrev m : ℕ
  m = shorter max

  bounds : (1 ≤ l) × (max < 2 ^ l) × (2 ^ (l - 1) ≤ max) × (2 ^ l ≡ 2 ^ (l - 1) * 2)
  bounds =
      let is = length_is max (omega arith) hi in
      (is.0, is.2, is.3, ap (λ (x : ℕ). 2 ^ x) (omega arith) ∙ pow-suc 2 (l - 1))

  uniform_reads : (s : List ℕ) (p : Place) (v : ℕ) → v < max → StandsAt s (position s p) (uniform_code max v)
      → ((get_uniform s p max).value ≡ v) × Used s p (get_uniform s p max).next (uniform_code max v)
  uniform_reads s p v h st =
      ⊎_elim
      (λ g.
      let c = code_short max v lo g in
      let r = (code_bits (l - 1)).reads s p v (omega (arith, bounds)) (rw c at st) in
      rw (short s p max lo hi (rw r.0 g), c) r)
      (λ g.
      let w = (v + m) / 2 in
      let b = (v + m) % 2 in
      let c : uniform_code max v ≡ bits_of (l - 1) w ++ (b ∷ []) = code_long max v lo bounds.0 g in
      let r = (code_bits (l - 1)).reads s p w (omega (arith, bounds)) (split (bits_of (l - 1) w) (b ∷ []) (rw c at st)).0 in
      let z = code_bit.reads s (read_bits s p (l - 1)).next b (omega arith) (behind (b ∷ []) r.1 (rw c at st)) in
      rw (long s p max lo hi (rw r.0 (omega arith)), c) (omega (arith, r.0, z.0), on (bits_of (l - 1) w) (b ∷ []) r.1 z.1))
      (lt_or_le v m)

  uniform_used : (s : List ℕ) (p : Place) → (get_uniform s p max).next.error ≡ false → Used s p (get_uniform s p max).next (uniform_code max (get_uniform s p max).value)
  uniform_used s p e =
      let w = read_bits s p (l - 1) in
      let b = get_bit s w.next in
      ⊎_elim
      (λ g.
      let q = short s p max lo hi g in
      rw (q, code_short max w.value lo g) ((code_bits (l - 1)).used s p (rw q at e)))
      (λ g.
      let q = long s p max lo hi g in
      let z = code_bit.used s w.next (rw q at e) in
      let r = (code_bits (l - 1)).used s p (sym z.error ∙ (rw q at e)) in
      let v = 2 * w.value - m + b.value in
      let d : (v + m) / 2 ≡ w.value = omega (arith, bit_lt s w.next) in
      let x : (v + m) % 2 ≡ b.value = omega (arith, bit_lt s w.next) in
      rw (q, code_long max v lo bounds.0 (omega arith), d, x) (on (bits_of (l - 1) w.value) (b.value ∷ []) r z))
      (lt_or_le w.value m)

pub code_uniform : (max : ℕ) → 1 ≤ max → max < 2 ^ 31 → Code value next (λ s p. get_uniform s p max) (uniform_code max) (λ v. v < max)
code_uniform max some hi =
    ⊎_elim
    (λ lo. record { reads = uniform_reads max lo hi; used = uniform_used max lo hi })
    (λ lo.
    let still : (s : List ℕ) (p : Place) → position s (settled s p) ≡ position s p = λ s p. pos_at s (position s p) p.error (pos_le s p) in
    record {
      reads = λ s p v h st. rw (few s p max lo, code_few max v lo) (omega arith, none (still s p) refl);
      used = λ s p e. rw (few s p max lo, code_few max 0 lo) (none (still s p) refl);
    })
    (lt_or_le 1 max)

-- ---- a run of ones

ones_none : (k : ℕ) → ones_code (suc k) 0 ≡ 0 ∷ []
unfolding ones_code
ones_none k = rw (lt-ltb 0 (suc k) (omega arith))

ones_more : (k n : ℕ) → ones_code (suc k) (suc n) ≡ 1 ∷ ones_code k n
unfolding ones_code
ones_more k n = rw (leb-suc-suc (suc n) k)

module _ (k : ℕ) (s : List ℕ) (p : Place) where
  abbrev bit : Read ℕ
  bit = get_bit s p

  run_one : bit.value ≡ 1 → run_of 1 (suc k) s p ≡ plus 1 (run_of 1 k s bit.next)
  unfolding run_of then
  run_one e = rw (eq-eqb bit.value 1 e)

  run_zero : bit.value ≡ 0 → run_of 1 (suc k) s p ≡ record { value = 0; next = bit.next }
  unfolding run_of then
  run_zero e = rw (ne_eqb bit.value 1 (omega arith))

ones_over : (s : List ℕ) (p : Place) → ((run_of 1 0 s p).value ≡ 0) × Used s p (run_of 1 0 s p).next (ones_code 0 (run_of 1 0 s p).value)
unfolding run_of ones_code
ones_over s p = (refl, none refl refl)

ones_reads : (k : ℕ) (s : List ℕ) (p : Place) (n : ℕ) → n ≤ k → StandsAt s (position s p) (ones_code k n)
    → ((run_of 1 k s p).value ≡ n) × Used s p (run_of 1 k s p).next (ones_code k n)
ones_reads zero s p zero h st = ((ones_over s p).0, rw (ones_over s p).0 at (ones_over s p).1)
ones_reads zero s p (suc n) h st = absurd (omega arith)
ones_reads (suc k) s p zero h st =
    let r = code_bit.reads s p 0 (omega arith) (rw (ones_none k) at st) in
    rw (run_zero k s p r.0, ones_none k) (refl, r.1)
ones_reads (suc k) s p (suc n) h st =
    let rest = ones_code k n in
    let r = code_bit.reads s p 1 (omega arith) (split (1 ∷ []) rest (rw (ones_more k n) at st)).0 in
    let z = ones_reads k s (get_bit s p).next n (omega arith) (behind rest r.1 (rw (ones_more k n) at st)) in
    rw (run_one k s p r.0, ones_more k n) (omega (arith, z.0), on (1 ∷ []) rest r.1 z.1)

ones_used : (k : ℕ) (s : List ℕ) (p : Place) → (run_of 1 k s p).next.error ≡ false → Used s p (run_of 1 k s p).next (ones_code k (run_of 1 k s p).value)
ones_used zero s p e = (ones_over s p).1
ones_used (suc k) s p e =
    let b = get_bit s p in
    let rest = run_of 1 k s b.next in
    ⊎_elim
    (λ g.
    let zero_bit : b.value ≡ 0 = omega arith in
    let q = run_zero k s p zero_bit in
    rw (q, ones_none k) (rw zero_bit at (code_bit.used s p (rw q at e))))
    (λ g.
    let one_bit : b.value ≡ 1 = omega (arith, bit_lt s p) in
    let q = run_one k s p one_bit in
    let z = ones_used k s b.next (rw q at e) in
    let r = code_bit.used s p (sym z.error ∙ (rw q at e)) in
    let u : 1 + rest.value ≡ suc rest.value = omega arith in
    rw (q, u, ones_more k rest.value) (on (1 ∷ []) (ones_code k rest.value) (rw one_bit at r) z))
    (lt_or_le b.value 1)

-- a logarithm is the least and a run of ones
pub code_log : (least most : ℕ) → Code value next (λ s p. read_log2 s p least most) (log_code least most) (InLog least most)
unfolding read_log2
code_log least most =
    record {
      reads = λ s p v g st.
          let r = ones_reads (most - least) s p (v - least) (omega (arith, g)) st in
          (omega (arith, r.0, g.low), r.1);
      used = λ s p e.
          let n = (run_of 1 (most - least) s p).value in
          let d : least + n - least ≡ n = omega arith in
          rw d (ones_used (most - least) s p e);
    }
