-- The bits by position and the list of all bits agree. Assumes nothing.
use mathlib.Core.Path.{◌≡◌, refl, sym, ap, ◌∙◌}
use mathlib.Core.List.{List, [], ◌∷◌}
use Prim.Native.Nat.{ℕ, zero, suc, ◌+◌, ◌-◌, ◌*◌, ◌/◌, ◌%◌, ◌^◌, ◌≤◌}
use native.Mathlib.Nat.{zero-div, div-one, add-mul, mul_assoc, mul_comm, pow-suc}
use native.Mathlib.Omega.{arith}
use lib.ListN.{length, get_or, take, drop}
use lib.Seq.{drop-cons}
use Rattle.laws.specs.AllBits.{all_bits, number_on}
use Rattle.getbits.specs.Bits.{bit_at, bits_at, bit_count}
use Rattle.getbits.proofs.Fields.{window, bits_add, bits_one}

-- the number of the whole data, of which a reading is a field
pub closed : (s : List ℕ) (i n : ℕ) → i + n ≤ bit_count s → bits_at s i n ≡ bits_at s 0 (bit_count s) / 2 ^ (bit_count s - (i + n)) % 2 ^ n
closed s i n h =
    let e : 0 + i ≡ i = omega arith in
    ap (λ (k : ℕ). bits_at s k n) (sym e) ∙ sym (window s 0 i n (bit_count s - (i + n)) (bit_count s) (omega arith))

pub all_at : (s : List ℕ) (i : ℕ) → get_or (all_bits s) i 0 ≡ bit_at s i
unfolding all_bits
all_at [] i = sym (ap (λ (x : ℕ). x % 2) (zero-div (2 ^ (7 - i % 8))))
all_at (b ∷ s) zero = refl
all_at (b ∷ s) (suc zero) = refl
all_at (b ∷ s) (suc (suc zero)) = refl
all_at (b ∷ s) (suc (suc (suc zero))) = refl
all_at (b ∷ s) (suc (suc (suc (suc zero)))) = refl
all_at (b ∷ s) (suc (suc (suc (suc (suc zero))))) = refl
all_at (b ∷ s) (suc (suc (suc (suc (suc (suc zero)))))) = refl
all_at (b ∷ s) (suc (suc (suc (suc (suc (suc (suc zero))))))) = ap (λ (x : ℕ). x % 2) (sym (div-one b))
all_at (b ∷ s) (suc (suc (suc (suc (suc (suc (suc (suc i)))))))) =
    let d : (suc (suc (suc (suc (suc (suc (suc (suc i)))))))) / 8 ≡ suc (i / 8) = omega arith in
    let m : (suc (suc (suc (suc (suc (suc (suc (suc i)))))))) % 8 ≡ i % 8 = omega arith in
    rw (d, m) (all_at s i)

pub all_length : (s : List ℕ) → length (all_bits s) ≡ bit_count s
unfolding all_bits
all_length [] = refl
all_length (b ∷ s) = omega (arith, all_length s)

-- the n bits from bit i on are the number that the list has there, by take and drop
pub taken : (s : List ℕ) (n i m : ℕ) → i + n ≤ bit_count s → number_on m (take n (drop i (all_bits s))) ≡ m * 2 ^ n + bits_at s i n
unfolding number_on bits_at
taken s zero i m h = omega arith
taken s (suc n) i m h =
    rw (drop-cons (all_bits s) i 0 (rw (all_length s) (omega arith)))
    (let a : bits_at s i (1 + n) ≡ bit_at s i * 2 ^ n + bits_at s (i + 1) n = bits_add s i 1 n ∙ rw (bits_one s i) in
    let f : 1 + n ≡ suc n = omega arith in
    let g : suc i ≡ i + 1 = omega arith in
    let q : 2 * m * 2 ^ n ≡ m * 2 ^ suc n =
    ap (λ (x : ℕ). x * 2 ^ n) (mul_comm 2 m) ∙ mul_assoc m 2 (2 ^ n) ∙ ap (λ (x : ℕ). m * x) (mul_comm 2 (2 ^ n) ∙ sym (pow-suc 2 n)) in
    let p : (2 * m + bit_at s i) * 2 ^ n ≡ m * 2 ^ suc n + bit_at s i * 2 ^ n = add-mul (2 * m) (bit_at s i) (2 ^ n) ∙ ap (λ (x : ℕ). x + bit_at s i * 2 ^ n) q in
    rw (g, all_at s i) (taken s n (i + 1) (2 * m + bit_at s i) (omega arith) ∙ omega (arith, rw f at a, p)))

pub by_list : (s : List ℕ) (i n : ℕ) → i + n ≤ bit_count s → bits_at s i n ≡ number_on 0 (take n (drop i (all_bits s)))
by_list s i n h = sym (taken s n i 0 h ∙ omega arith)
