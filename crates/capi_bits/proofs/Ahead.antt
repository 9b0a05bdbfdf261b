-- Readings whose bits are all there, as they are handed back over a lent place. Assumes nothing.
use Rattle.std.proofs.Common.{◌≡◌, ℕ, zero, suc, ◌+◌, ◌-◌, ◌*◌, ◌/◌, ◌%◌, ◌^◌, ◌<◌, ◌≤◌, ltb, List, [], ◌∷◌, pos, sym, refl, ap, ◌∙◌, arith, le-ltb, lt-ltb, ne_eqb, le-leb}
use borrow.Author.Tests.{lt-leb}
use Rattle.codes.proofs.Callers.{length_is}
use Rattle.codes.specs.Codes.{bit_length, get_uniform}
use Rattle.getbits.proofs.Callers.{width_in, read_there, read_more, bit_lt}
use Rattle.getbits.proofs.Chain.{through, taken, left}
use Rattle.getbits.proofs.Fields.{bits_one}
use Rattle.getbits.proofs.Places.{pos_at}
use Rattle.getbits.specs.Bits.{bit_at, bits_at, bit_count, position, place_at, read_bits, look_at, get_bit, get_bits}
use Rattle.getbits.specs.Chain.{pick, then}
use Rattle.getbits.specs.declared.Read.{Read}
use Rattle.getbits.specs.declared.Place.{Place}
use Rattle.lent.specs.Lent.{is_set, place_of, error_after}
use Rattle.capi_bits.specs.Numbers.{lent_number}

-- an operation that leaves the error as it was leaves its byte
kept : (error : ℕ) → error_after (is_set error) error ≡ error
kept zero = refl
kept (suc n) = let e = ne_eqb (suc n) 0 (λ (h : suc n ≡ 0). omega arith) in rw e

-- a number, and a place with the error as it was
pub handed : (error v k : ℕ) {j : ℕ} → j ≡ k % 2 ^ 64 → (v ∷ j ∷ error ∷ []) ≡ lent_number (record { value = v; next = place_at k (is_set error) }) error
handed error v k e =
    let f : 8 * (k / 8) + k % 8 ≡ k = omega arith in
    rw (kept error, f, e)

module _ (s : List ℕ) (k error : ℕ) where
  -- n bits that are there
  read_on : (n : ℕ) {v j : ℕ} → k + n ≤ bit_count s → v ≡ bits_at s k n → j ≡ (k + n) % 2 ^ 64 → (v ∷ j ∷ error ∷ []) ≡ lent_number (read_bits s (place_of k error) n) error
  read_on n {v} h e f =
      let p = place_of k error in
      let at : position s p ≡ k = pos_at s k (is_set error) (omega arith) in
      let there : read_bits s p n ≡ record { value = bits_at s k n; next = place_at (k + n) (is_set error) } = read_there s p n (omega (arith, at)) ∙ rw at in
      rw (there, e) (handed error (bits_at s k n) (k + n) f)

  pub bit_on : {v j : ℕ} → k < bit_count s → v ≡ bit_at s k → j ≡ (k + 1) % 2 ^ 64 → (v ∷ j ∷ error ∷ []) ≡ lent_number (get_bit s (place_of k error)) error
  unfolding get_bit
  bit_on h e f = read_on 1 (omega arith) (e ∙ sym (bits_one s k)) f

  -- what is looked at from here on
  ahead : (n : ℕ) {w : ℕ} → k ≤ bit_count s → n ≤ 32 → w ≡ look_at s (place_of k 0) n → w ≡ bits_at s k n
  unfolding look_at
  ahead n h g e = e ∙ taken _ _ _ (le-leb n 32 g) ∙ rw (pos_at s k (is_set 0) h)

  pub bits_on : (n : ℕ) {w j : ℕ} → k + n ≤ bit_count s → n ≤ 32 → w ≡ look_at s (place_of k 0) n → j ≡ (k + n) % 2 ^ 64
      → (w ∷ j ∷ error ∷ []) ≡ lent_number (get_bits s (place_of k error) (pos n)) error
  bits_on n h g e f = rw (sym (width_in s (place_of k error) n g)) (read_on n h (ahead n (omega arith) g e) f)

  module _ (max : ℕ) (two : 2 ≤ max) (fits : max < 2 ^ 31) (there : k + 32 ≤ bit_count s) where
    abbrev p : Place
    p = place_of k error

    abbrev l : ℕ
    l = bit_length max

    abbrev m : ℕ
    m = 2 ^ l - max

    abbrev most : Read ℕ
    most = read_bits s p (l - 1)

    abbrev last : Read ℕ
    last = get_bit s most.next

    here : position s p ≡ k
    here = pos_at s k (is_set error) (omega arith)

    length_known : (1 ≤ l) × (l < 32)
    length_known = let is = length_is max (omega arith) fits in (is.0, is.1)

    -- the bits of the longer form are those of the shorter and one more
    more : (bits_at s k l ≡ 2 * most.value + last.value) × ((read_bits s p l).next ≡ last.next)
    more =
        let e : l - 1 + 1 ≡ l = omega (arith, length_known.0) in
        rw (e, here) at (read_more s p (l - 1) (omega (arith, here, length_known.1)))

    behind : get_uniform s p max ≡ pick (ltb most.value m) most (then last λ b. record { value = 2 * most.value - m + b.value; next = b.next })
    unfolding get_uniform
    behind =
        left _ _ _ (lt-leb max 1 (omega arith))
        ∙ left _ _ _ (lt-leb (2 ^ 31) max (omega arith))
        ∙ through _ _ refl
        ∙ through _ _ refl
        ∙ through _ _ refl

    module _ (w : ℕ) (e : w ≡ look_at s (place_of k 0) l) where
      whole : w ≡ 2 * most.value + last.value
      whole = ahead l (omega arith) (omega (arith, length_known.1)) e ∙ more.0

      half : w / 2 ≡ most.value
      half = omega (arith, whole, bit_lt s most.next)

      pub uniform_short : {j : ℕ} → w / 2 < m → j ≡ (k + (l - 1)) % 2 ^ 64 → ((w / 2) ∷ j ∷ error ∷ []) ≡ lent_number (get_uniform s p max) error
      uniform_short h f =
          rw (behind ∙ taken _ _ _ (lt-ltb most.value m (omega (arith, half))))
          (read_on (l - 1) (omega (arith, length_known.1)) (half ∙ ap (λ (x : Read ℕ). x.value) (read_there s p (l - 1) (omega (arith, here, length_known.1))) ∙ rw here) f)

      pub uniform_long : {j : ℕ} → m ≤ w / 2 → j ≡ (k + l) % 2 ^ 64 → ((w - m) ∷ j ∷ error ∷ []) ≡ lent_number (get_uniform s p max) error
      uniform_long h f =
          let next : last.next ≡ place_at (k + l) (is_set error) =
          sym more.1 ∙ ap (λ (x : Read ℕ). x.next) (read_there s p l (omega (arith, here, length_known.1))) ∙ rw here in
          let value : 2 * most.value - m + last.value ≡ w - m = omega (arith, whole, half) in
          rw (behind ∙ left _ _ _ (le-ltb most.value m (omega (arith, half))) ∙ through _ _ refl, next, value)
          (handed error (w - m) (k + l) f)
