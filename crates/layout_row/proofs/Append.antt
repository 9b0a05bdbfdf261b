-- Laws of a row of bits that grows. Assumes nothing.
use mathlib.Core.Bool.{Bool, true, false}
use mathlib.Core.List.{List, [], ◌∷◌, ◌++◌, append_assoc, append-nil}
use mathlib.Core.Logic.{⊎_elim}
use mathlib.Core.Path.{◌≡◌, refl, sym, ap, ◌∙◌}
use Prim.Native.Nat.{ℕ, zero, suc, ◌+◌, ◌-◌, ◌*◌, ◌/◌, ◌%◌, ◌^◌, ◌≤◌, ◌<◌}
use native.Mathlib.Nat.{le_refl, div-one, div-div-eq-div-mul, pow-suc}
use native.Mathlib.Omega.{arith}
use borrow.Author.Tests.{eqb-true, eqb-false}
use lib.Dec.{eqb}
use lib.ListN.{length, get_or, set, replicate, length-set, length-replicate, length-append, get_or-append, get_or-eq_default}
use lib.Seq.{get_or-append_seam, get_or-set_same, get_or-set_other, ext_get_or}
use Rattle.getbits.specs.Chain.{pick}
use Rattle.getbits.proofs.Chain.{picked}
use Rattle.getbits.proofs.Places.{lt_or_le}
use Rattle.layout_bits.proofs.Packed.{Small, small_none, small_cons, small_append, bytes_length, byte_at_lem, byte_lt, below_8}
use Rattle.layout_bits.specs.Rows.{byte_of, bytes_of}
use Rattle.layout_bits.specs.Bits.{bits_of}
use Rattle.layout_row.specs.Inner.{Appended}

-- nothing is put
pub nothing : (bytes : List ℕ) (at : ℕ) → Appended bytes at [] bytes at
nothing bytes at = record { ends = omega arith; holds = λ row h. rw (append-nil row) h }

-- the same bits
pub are : {before after : List ℕ} {at end : ℕ} {x y : List ℕ} → x ≡ y → Appended before at x after end → Appended before at y after end
are e u = rw (← e) u

-- one row of bits behind another
pub both : {before mid after : List ℕ} {at turn end : ℕ} {x y : List ℕ} → Appended before at x mid turn → Appended mid turn y after end → Appended before at (x ++ y) after end
both {x} {y} u w =
    record {
      ends = omega (arith, u.ends, w.ends, length-append x y);
      holds = λ row h. rw (← append_assoc row x y) (w.holds (row ++ x) (u.holds row h));
    }

-- ---- one bit

-- a byte with b added to bit r
raised : (f : ℕ → ℕ) (b r : ℕ) → r < 8 → byte_of (λ k. f k + pick (eqb k r) b 0) ≡ byte_of f + b * 2 ^ (7 - r)
raised f b = below_8 (λ r. byte_of (λ k. f k + pick (eqb k r) b 0) ≡ byte_of f + b * 2 ^ (7 - r)) (omega arith)

module _ (row : List ℕ) (b : ℕ) where
  abbrev at : ℕ
  at = length row

  -- the bits before and behind the new one
  other : (i : ℕ) → (i ≡ at → ⊥) → get_or (row ++ (b ∷ [])) i 0 ≡ get_or row i 0
  other i h =
      ⊎_elim (λ l. get_or-append row (b ∷ []) 0 i l)
      (λ l.
      let q : length (row ++ (b ∷ [])) ≤ i = omega (arith, length-append row (b ∷ []), h) in
      get_or-eq_default (row ++ (b ∷ [])) 0 q ∙ sym (get_or-eq_default row 0 l))
      (lt_or_le i at)

  -- the bits of its byte
  bit_there : (k : ℕ) → get_or (row ++ (b ∷ [])) (8 * (at / 8) + k) 0 ≡ get_or row (8 * (at / 8) + k) 0 + pick (eqb k (at % 8)) b 0
  bit_there k =
      picked (λ (x : ℕ). get_or (row ++ (b ∷ [])) (8 * (at / 8) + k) 0 ≡ get_or row (8 * (at / 8) + k) 0 + x) (eqb k (at % 8)) b 0
      (λ e.
      let q : 8 * (at / 8) + k ≡ at = omega (arith, eqb-true k (at % 8) e) in
      rw (q, get_or-append_seam row b [] 0, get_or-eq_default row 0 (le_refl at)) (omega arith))
      (λ e.
      let q : 8 * (at / 8) + k ≡ at → ⊥ = λ d. eqb-false k (at % 8) e (omega arith) in
      other _ q ∙ omega arith)

  byte_there : byte_of (λ k. get_or (row ++ (b ∷ [])) (8 * (at / 8) + k) 0) ≡ byte_of (λ k. get_or row (8 * (at / 8) + k) 0) + b * 2 ^ (7 - at % 8)
  byte_there = (λ i. byte_of (λ k. bit_there k i)) ∙ raised (λ k. get_or row (8 * (at / 8) + k) 0) b (at % 8) (omega arith)

  byte_other : (j : ℕ) → (j ≡ at / 8 → ⊥) → byte_of (λ k. get_or (row ++ (b ∷ [])) (8 * j + k) 0) ≡ byte_of (λ k. get_or row (8 * j + k) 0)
  byte_other j h =
      let o : (k : ℕ) → k < 8 → get_or (row ++ (b ∷ [])) (8 * j + k) 0 ≡ get_or row (8 * j + k) 0 = λ k l. other (8 * j + k) (λ e. h (omega arith)) in
      rw (o 0 (omega arith), o 1 (omega arith), o 2 (omega arith), o 3 (omega arith), o 4 (omega arith), o 5 (omega arith), o 6 (omega arith), o 7 (omega arith))

-- the byte that the new bit falls in, and the others
module _ (row : List ℕ) (bit v : ℕ) (at< : length row < 1416) (small : Small (row ++ (bit ∷ [])))
    (e : v ≡ (get_or (bytes_of 177 row) (length row / 8) 0 + bit * 2 ^ (7 - length row % 8)) % 256) where
  abbrev before : List ℕ
  before = bytes_of 177 row

  abbrev more : List ℕ
  more = row ++ (bit ∷ [])

  abbrev i : ℕ
  i = length row / 8

  there : v ≡ byte_of (λ k. get_or more (8 * i + k) 0)
  there =
      e
      ∙ ap (λ (x : ℕ). (x + bit * 2 ^ (7 - length row % 8)) % 256) (byte_at_lem 177 row i (omega arith))
      ∙ ap (λ (x : ℕ). x % 256) (sym (byte_there row bit))
      ∙ omega (arith, byte_lt (λ k. get_or more (8 * i + k) 0) (λ k. small.each _))

  same : (j : ℕ) → j < 177 → (t : Bool) → eqb j i ≡ t → get_or (set before i v) j 0 ≡ get_or (bytes_of 177 more) j 0
  same j h true t =
      rw (eqb-true j i t) (get_or-set_same before i v 0 (omega (arith, bytes_length 177 row)) ∙ there ∙ sym (byte_at_lem 177 more i (omega arith)))
  same j h false t =
      let q = eqb-false j i t in
      get_or-set_other before i j v 0 q ∙ byte_at_lem 177 row j h ∙ sym (byte_other row bit j q) ∙ sym (byte_at_lem 177 more j h)

  stored : set before i v ≡ bytes_of 177 more
  stored =
      let l = length-set before i v ∙ bytes_length 177 row in
      ext_get_or 0 (set before i v) (bytes_of 177 more) (l ∙ sym (bytes_length 177 more)) (λ j h. same j (omega (arith, l)) (eqb j i) refl)

pub one_more : (bytes : List ℕ) (at bit v : ℕ) → at < 1416 → bit < 2 → v ≡ (get_or bytes (at / 8) 0 + bit * 2 ^ (7 - at % 8)) % 256
    → Appended bytes at (bit ∷ []) (set bytes (at / 8) v) (at + 1)
one_more bytes at bit v h b e =
    record {
      ends = omega arith;
      holds = λ row g.
          let small = small_append {x = row} {y = bit ∷ []} (record { each = g.small }) (small_cons b small_none) in
          record {
            made = rw (g.made, g.long) (stored row bit v (rw (← g.long) h) small (rw (g.made, g.long) at e));
            long = omega (arith, g.long, length-append row (bit ∷ []));
            small = small.each;
          };
    }

-- ---- the bits of a number, from the most significant on

pub digits_none : (v : ℕ) → bits_of 0 v ≡ []
unfolding bits_of
digits_none v = refl

pub digits_more : (n v i : ℕ) → i < n → bits_of (i + 1) (v / 2 ^ (n - (i + 1))) ≡ bits_of i (v / 2 ^ (n - i)) ++ (v / 2 ^ (n - 1 - i) % 2 ∷ [])
unfolding bits_of
digits_more n v i h =
    let e : i + 1 ≡ suc i = omega arith in
    let d : n - (i + 1) ≡ n - 1 - i = omega arith in
    let f : 2 ^ (n - 1 - i) * 2 ≡ 2 ^ (n - i) = sym (pow-suc 2 (n - 1 - i)) ∙ ap (λ (x : ℕ). 2 ^ x) (omega arith) in
    rw (d, e, div-div-eq-div-mul v (2 ^ (n - 1 - i)) 2, f) refl

pub digits_all : (n v : ℕ) → bits_of n (v / 2 ^ (n - n)) ≡ bits_of n v
digits_all n v =
    let e : n - n ≡ 0 = omega arith in
    rw (e, div-one v) refl

-- ---- a run of ones

abbrev pub ones : ℕ → List ℕ
ones n = replicate n 1

pub ones_length : (n : ℕ) → length (ones n) ≡ n
ones_length n = length-replicate {A = ℕ} n 1

pub ones_more : (n : ℕ) → ones (n + 1) ≡ ones n ++ (1 ∷ [])
ones_more zero = refl
ones_more (suc n) =
    let e : suc n + 1 ≡ suc (n + 1) = omega arith in
    rw e (ap (λ (l : List ℕ). 1 ∷ l) (ones_more n))
