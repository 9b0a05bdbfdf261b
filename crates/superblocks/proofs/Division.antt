-- A quotient settled bit by bit, the highest first. Assumes nothing.
use Rattle.std.proofs.Common.{◌≡◌, ℕ, zero, suc, ◌+◌, ◌-◌, ◌*◌, ◌/◌, ◌^◌, ◌<◌, ◌≤◌, max, sym, refl, ap, ◌∙◌, mul_comm, div-lt_iff_lt-mul, mul-le-mul_left, pow-suc, mul-zero, le-div_iff_mul-le, mul-one, mul-add, arith, pow_pos, pow_mono}
use native.Mathlib.Nat.{mul-div-le, div-eq_of_lt-le}
use lib.Pow.{ones_split, ones_lt, high}

-- k bits hold n / d, or don't, by the other quotient
pub held : (n d k : ℕ) → 1 ≤ d → n / 2 ^ k < d → n / d < 2 ^ k
held n d k s h = (div-lt_iff_lt-mul s).1 (rw (mul_comm (2 ^ k) d) ((div-lt_iff_lt-mul (pow_pos k)).0 h))

pub not_held : (n d k : ℕ) → 1 ≤ d → d ≤ n / 2 ^ k → 2 ^ k ≤ n / d
not_held n d k s h = (le-div_iff_mul-le s).1 (rw (mul_comm (2 ^ k) d) ((le-div_iff_mul-le (pow_pos k)).0 h))

-- a power is twice the one before
double : (k : ℕ) → 0 < k → 2 ^ k ≡ 2 ^ (k - 1) + 2 ^ (k - 1)
double k h =
    let e : k ≡ suc (k - 1) = omega arith in
    ap (◌^◌ 2) e ∙ pow-suc 2 (k - 1) ∙ omega arith

-- k ones
pub ones : (k : ℕ) → k ≤ 32 → 4294967295 / 2 ^ (32 - k) ≡ 2 ^ k - 1
ones k h =
    let whole : 32 ≡ k + (32 - k) = omega arith in
    ap (λ (x : ℕ). (2 ^ x - 1) / 2 ^ (32 - k)) whole
    ∙ ap (λ (x : ℕ). x / 2 ^ (32 - k)) (ones_split k (32 - k))
    ∙ high (2 ^ k - 1) (32 - k) (ones_lt (32 - k))

-- the divisor's part for a bit of the quotient fits 32 bits
pub part_fits : (n d k most : ℕ) → n < 2 ^ 32 → d < 2 ^ 32 → k ≤ most → 2 ^ most ≤ max 1 (n / d) → d * 2 ^ k < 2 ^ 32
part_fits n d k most hn hd h e = by (n / d) refl
  where
    by : (q : ℕ) → n / d ≡ q → d * 2 ^ k < 2 ^ 32
    by zero z = omega (arith, mul-le-mul_left {m = 2 ^ k} {n = 1} d (omega (arith, pow_mono h, z)), mul-one d)
    by (suc q) z = omega (arith, mul-le-mul_left {m = 2 ^ k} {n = n / d} d (omega (arith, pow_mono h, z)), mul-div-le n d)

-- the bits of q from k on are those of n / d, those below are set, and `left` is what the settled ones leave of n
pub record Settled (n d k q left : ℕ) : Type 0 where
  pub set : 2 ^ k ≤ q + 1
  pub taken : d * (q + 1 - 2 ^ k) + left ≡ n
  pub rest : left < d * 2 ^ k

-- at the start none is settled
pub start : (n d k : ℕ) → 1 ≤ d → n / d < 2 ^ k → Settled n d k (2 ^ k - 1) n
start n d k s h =
    let none : 2 ^ k - 1 + 1 - 2 ^ k ≡ 0 = omega (arith, pow_pos k) in
    record {
      set = omega (arith, pow_pos k);
      taken = rw none (omega (arith, mul-zero d));
      rest = rw (mul_comm d (2 ^ k)) ((div-lt_iff_lt-mul s).0 h);
    }

-- a bit more is settled: it stays set
pub keep : (n d k q left : ℕ) → 0 < k → Settled n d k q left → d * 2 ^ (k - 1) ≤ left → Settled n d (k - 1) q (left - d * 2 ^ (k - 1))
keep n d k q left more s h =
    let p = 2 ^ (k - 1) in
    let two = double k more in
    let all : q + 1 - p ≡ (q + 1 - 2 ^ k) + p = omega (arith, two, s.set) in
    let sum = ap (◌*◌ d) all ∙ mul-add d (q + 1 - 2 ^ k) p in
    let part = ap (◌*◌ d) two ∙ mul-add d p p in
    record { set = omega (arith, two, s.set); taken = omega (arith, sum, h, s.taken); rest = omega (arith, part, h, s.rest) }

-- or it is taken off
pub clear : (n d k q left : ℕ) → 0 < k → Settled n d k q left → left < d * 2 ^ (k - 1) → (2 ^ (k - 1) ≤ q) × Settled n d (k - 1) (q - 2 ^ (k - 1)) left
clear n d k q left more s h =
    let p = 2 ^ (k - 1) in
    let two = double k more in
    let some = pow_pos (k - 1) in
    let same : q - p + 1 - p ≡ q + 1 - 2 ^ k = omega (arith, two, some, s.set) in
    (omega (arith, two, some, s.set), record { set = omega (arith, two, some, s.set); taken = rw same s.taken; rest = h })

-- and at the end all are
pub settled : (n d q left : ℕ) → Settled n d 0 q left → q ≡ n / d
settled n d q left s =
    let same : q + 1 - 1 ≡ q = omega arith in
    let e : d * q + left ≡ n = rw same at s.taken in
    let r : left < d = rw mul-one at s.rest in
    sym (div-eq_of_lt-le d (omega (arith, e, mul_comm q d)) (omega (arith, e, r, mul_comm (q + 1) d, mul-add d q 1, mul-one d)))
