-- A row of bits that is read one by one, out of the word of 32 bits that was looked at. Assumes nothing.
use mathlib.Core.Bool.{Bool, true, false}
use mathlib.Core.Logic.{⊎_elim}
use mathlib.Core.List.{List}
use mathlib.Core.Path.{◌≡◌, refl, sym, ◌∙◌, ap}
use Prim.Native.Nat.{ℕ, zero, suc, ◌+◌, ◌-◌, ◌*◌, ◌/◌, ◌%◌, ◌^◌, min, ◌≤◌, ◌<◌}
use native.Mathlib.Nat.{zero-div, add-mul, mul_assoc, pow-suc}
use native.Mathlib.Omega.{arith}
use borrow.Author.Tests.{eqb-true, eqb-false}
use lib.Count.{count_leading_zeros, leading_length, leading_unique}
use lib.Dec.{eqb}
use lib.ListN.{length, get_or-eq_default}
use lib.Pow.{pow-add, shl_lt, low}
use Rattle.codes.specs.Codes.{run_of}
use Rattle.getbits.specs.Bits.{bit_at, bits_at, bit_count, position, place_at, read_bits, get_bit}
use Rattle.getbits.specs.Chain.{pick, then}
use Rattle.getbits.specs.declared.Read.{Read}
use Rattle.getbits.specs.declared.Place.{Place}
use Rattle.getbits.proofs.Callers.{read_there, read_pos}
use Rattle.getbits.proofs.Fields.{bits_lt, bits_add, bits_one}
use Rattle.getbits.proofs.Places.{lt_or_le, pos_at, read_short}

-- the bit behind k others, and the place behind it
pub bit_behind : (s : List ℕ) (p : Place) (k : ℕ) → get_bit s (read_bits s p k).next ≡ record { value = bit_at s (position s p + k); next = (read_bits s p (k + 1)).next }
unfolding get_bit
bit_behind s p k = ⊎_elim there past (lt_or_le (position s p + k) (bit_count s))
  where
    there : position s p + k < bit_count s → read_bits s (read_bits s p k).next 1 ≡ record { value = bit_at s (position s p + k); next = (read_bits s p (k + 1)).next }
    there h =
        let q = place_at (position s p + k) p.error in
        let at : position s q ≡ position s p + k = pos_at s (position s p + k) p.error (omega arith) in
        let e : position s p + (k + 1) ≡ position s p + k + 1 = omega arith in
        rw (read_there s p k (omega arith), read_there s p (k + 1) (omega arith), read_there s q 1 (omega (arith, at)), at, bits_one, e) refl

    past : bit_count s ≤ position s p + k → read_bits s (read_bits s p k).next 1 ≡ record { value = bit_at s (position s p + k); next = (read_bits s p (k + 1)).next }
    past h =
        let at = read_pos s p k in
        let none : length s ≤ (position s p + k) / 8 = omega arith in
        sym (read_short s (read_bits s p k).next 1 (omega (arith, at)))
        ∙ rw (get_or-eq_default s 0 none, zero-div (2 ^ (7 - (position s p + k) % 8)), ← read_short s p (k + 1) (omega arith)) refl

-- there are two bits
other : (b bit : ℕ) → b < 2 → bit < 2 → (b ≡ bit → ⊥) → b ≡ 1 - bit
other zero zero h k e = absurd (e refl)
other zero (suc zero) h k e = refl
other (suc zero) zero h k e = refl
other (suc zero) (suc zero) h k e = absurd (e refl)
other (suc (suc b)) bit h k e = absurd (omega arith)
other zero (suc (suc bit)) h k e = absurd (omega arith)
other (suc zero) (suc (suc bit)) h k e = absurd (omega arith)

-- how many of the 32 bits of x are `bit`, from the first on
abbrev pub count : ℕ → ℕ → ℕ
count bit x = count_leading_zeros 32 (pick (eqb bit 0) x (4294967295 - x))

-- the first one isn't
none_counted : (bit x y : ℕ) → bit < 2 → y < 2147483648 → x ≡ (1 - bit) * 2147483648 + y → count bit x ≡ 0
none_counted zero x y b h e = sym (leading_unique 32 x 0 32 refl (omega arith) (omega arith))
none_counted (suc zero) x y b h e = sym (leading_unique 32 (4294967295 - x) 0 32 refl (omega arith) (omega arith))
none_counted (suc (suc bit)) x y b h e = absurd (omega arith)

all_zeros : count_leading_zeros 32 0 ≡ 32
unfolding count_leading_zeros
all_zeros = refl

-- the first one is; at most suc m are asked for, since behind the last bit stand zeros
one_counted : (bit x y m : ℕ) → bit < 2 → y < 2147483648 → m < 32 → x ≡ bit * 2147483648 + y
    → (min (count bit x) (suc m) ≡ 1 + min (count bit (y * 2)) m) × (min (count bit x + 1) (suc m) ≡ 1 + min (count bit (y * 2) + 1) m)
one_counted zero x y m b h l is = go (leading_length 32 (y * 2) (omega arith))
  where
    go : (n : ℕ) × (count_leading_zeros 32 (y * 2) + n ≡ 32) × (y * 2 < 2 ^ n) × (2 ^ n ≤ 2 * (y * 2) + 1)
        → (min (count_leading_zeros 32 x) (suc m) ≡ 1 + min (count_leading_zeros 32 (y * 2)) m) × (min (count_leading_zeros 32 x + 1) (suc m) ≡ 1 + min (count_leading_zeros 32 (y * 2) + 1) m)
    go (zero, e, under, top) =
        let none : x ≡ 0 = omega (arith, under) in
        let all : count_leading_zeros 32 x ≡ 32 = ap (count_leading_zeros 32) none ∙ all_zeros in
        (omega (arith, all, e), omega (arith, all, e))
    go (suc n, e, under, top) =
        let more = leading_unique 32 x (suc (count_leading_zeros 32 (y * 2))) n (omega (arith, e)) (omega (arith, under, pow-suc 2 n)) (omega (arith, top, pow-suc 2 n)) in
        (omega (arith, more), omega (arith, more))
one_counted (suc zero) x y m b h l is = go (leading_length 32 (4294967295 - y * 2) (omega arith))
  where
    go : (n : ℕ) × (count_leading_zeros 32 (4294967295 - y * 2) + n ≡ 32) × (4294967295 - y * 2 < 2 ^ n) × (2 ^ n ≤ 2 * (4294967295 - y * 2) + 1)
        → (min (count 1 x) (suc m) ≡ 1 + min (count 1 (y * 2)) m) × (min (count 1 x + 1) (suc m) ≡ 1 + min (count 1 (y * 2) + 1) m)
    go (zero, e, under, top) = absurd (omega (arith, under))
    go (suc n, e, under, top) =
        let more = leading_unique 32 (4294967295 - x) (suc (count 1 (y * 2))) n (omega (arith, e)) (omega (arith, under, pow-suc 2 n)) (omega (arith, top, pow-suc 2 n)) in
        (omega (arith, more), omega (arith, more))
one_counted (suc (suc bit)) x y m b h l is = absurd (omega arith)

-- the word that was looked at
module _ (s : List ℕ) (i word : ℕ) (w : word ≡ bits_at s i 32) where
  -- without its first k bits
  abbrev pub from : ℕ → ℕ
  from k = word * 2 ^ k % 4294967296

  from_is : (k : ℕ) → k ≤ 32 → from k ≡ bits_at s (i + k) (32 - k) * 2 ^ k
  from_is k h =
      let a = bits_at s i k in
      let b = bits_at s (i + k) (32 - k) in
      let all : k + (32 - k) ≡ 32 = omega arith in
      let back : 32 - k + k ≡ 32 = omega arith in
      let parts : word ≡ a * 2 ^ (32 - k) + b = w ∙ ap (bits_at s i) (sym all) ∙ bits_add s i k (32 - k) in
      let whole : 2 ^ (32 - k) * 2 ^ k ≡ 2 ^ 32 = sym (pow-add 2 (32 - k) k) ∙ ap (λ (x : ℕ). 2 ^ x) back in
      let small : b * 2 ^ k < 2 ^ 32 = rw back at (shl_lt (32 - k) k (bits_lt s (i + k) (32 - k))) in
      ap (λ (x : ℕ). x * 2 ^ k % 4294967296) parts
      ∙ ap (λ (x : ℕ). x % 4294967296) (add-mul (a * 2 ^ (32 - k)) b (2 ^ k) ∙ ap (λ (x : ℕ). x + b * 2 ^ k) (mul_assoc a (2 ^ (32 - k)) (2 ^ k) ∙ ap (◌*◌ a) whole))
      ∙ low a 32 small

  -- its first bit and the rest
  first : (k : ℕ) → k < 32 → (y : ℕ) × (from k ≡ bit_at s (i + k) * 2147483648 + y) × (from (k + 1) ≡ y * 2) × (y < 2147483648)
  first k h =
      let r = bits_at s (i + (k + 1)) (31 - k) in
      let long : 32 - k ≡ 1 + (31 - k) = omega arith in
      let less : 32 - (k + 1) ≡ 31 - k = omega arith in
      let next : i + k + 1 ≡ i + (k + 1) = omega arith in
      let back : 31 - k + k ≡ 31 = omega arith in
      let whole : 2 ^ (31 - k) * 2 ^ k ≡ 2147483648 = sym (pow-add 2 (31 - k) k) ∙ ap (λ (x : ℕ). 2 ^ x) back in
      let bits : bits_at s (i + k) (32 - k) ≡ bit_at s (i + k) * 2 ^ (31 - k) + r =
      ap (bits_at s (i + k)) long ∙ bits_add s (i + k) 1 (31 - k) ∙ rw (bits_one, next) refl in (
        r * 2 ^ k,
        from_is k (omega arith) ∙ ap (λ (x : ℕ). x * 2 ^ k) bits ∙ add-mul (bit_at s (i + k) * 2 ^ (31 - k)) r (2 ^ k)
            ∙ ap (λ (x : ℕ). x + r * 2 ^ k) (mul_assoc (bit_at s (i + k)) (2 ^ (31 - k)) (2 ^ k) ∙ ap (◌*◌ (bit_at s (i + k))) whole),
        from_is (k + 1) (omega arith) ∙ ap (λ (x : ℕ). bits_at s (i + (k + 1)) x * 2 ^ (k + 1)) less ∙ ap (◌*◌ r) (pow-add 2 k 1) ∙ sym (mul_assoc r (2 ^ k) 2),
        rw back at (shl_lt (31 - k) k (bits_lt s (i + (k + 1)) (31 - k))),
      )

  bit_low : (k : ℕ) → bit_at s (i + k) < 2
  bit_low k = rw bits_one at (bits_lt s (i + k) 1)

  -- the bit behind k others, by the word
  pub is_one : (k : ℕ) → k < 32 → 2147483648 ≤ from k → bit_at s (i + k) ≡ 1
  is_one k h top =
      let f = first k h in
      omega (arith, f.1, f.3, bit_low k)

  pub is_zero : (k : ℕ) → k < 32 → from k < 2147483648 → bit_at s (i + k) ≡ 0
  is_zero k h top =
      let f = first k h in
      omega (arith, f.1, f.3, bit_low k)

-- a run behind k bits, by the word
module _ (bit : ℕ) (h : bit < 2) (s : List ℕ) (p : Place) (word : ℕ) (w : word ≡ bits_at s (position s p) 32) where
  abbrev counted : ℕ → ℕ
  counted k = count bit (from s (position s p) word w k)

  abbrev told : ℕ → ℕ → Read ℕ
  told m k = record { value = min (counted k) m; next = (read_bits s p (k + min (counted k + 1) m)).next }

  one_more : (m k : ℕ) → k + suc m ≤ 32 → (t : Bool) → eqb (bit_at s (position s p + k)) bit ≡ t → run_of bit m s (read_bits s p (k + 1)).next ≡ told m (k + 1)
      → run_of bit (suc m) s (read_bits s p k).next ≡ told (suc m) k
  unfolding run_of then
  one_more m k l true e rest =
      let b = bit_at s (position s p + k) in
      let f = first s (position s p) word w k (omega arith) in
      let is : from s (position s p) word w k ≡ bit * 2147483648 + f.0 = f.1 ∙ ap (λ (v : ℕ). v * 2147483648 + f.0) (eqb-true b bit e) in
      let n = one_counted bit (from s (position s p) word w k) f.0 m h f.3 (omega arith) is in
      let next = ap (count bit) f.2 in
      let a : 1 + min (counted (k + 1)) m ≡ min (counted k) (suc m) = omega (arith, n.0, next) in
      let z : k + 1 + min (counted (k + 1) + 1) m ≡ k + min (counted k + 1) (suc m) = omega (arith, n.1, next) in
      rw (bit_behind s p k, e, rest, a, z) refl
  one_more m k l false e rest =
      let b = bit_at s (position s p + k) in
      let f = first s (position s p) word w k (omega arith) in
      let is : from s (position s p) word w k ≡ (1 - bit) * 2147483648 + f.0 =
      f.1 ∙ ap (λ (v : ℕ). v * 2147483648 + f.0) (other b bit (bit_low s (position s p) word w k) h (eqb-false b bit e)) in
      let n = none_counted bit (from s (position s p) word w k) f.0 h f.3 is in
      let a : min (counted k) (suc m) ≡ 0 = omega (arith, n) in
      let z : k + min (counted k + 1) (suc m) ≡ k + 1 = omega (arith, n) in
      rw (bit_behind s p k, e, a, z) refl

  pub run_behind : (m k : ℕ) → k + m ≤ 32 → run_of bit m s (read_bits s p k).next ≡ told m k
  unfolding run_of
  run_behind zero k l =
      let a : min (counted k) 0 ≡ 0 = omega arith in
      let z : k + min (counted k + 1) 0 ≡ k = omega arith in
      rw (a, z) refl
  run_behind (suc m) k l = one_more m k l (eqb (bit_at s (position s p + k)) bit) refl (run_behind m (k + 1) (omega arith))
