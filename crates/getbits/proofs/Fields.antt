-- Laws of the bits of a byte string and of the bytes that hold them. Assumes nothing.
use mathlib.Core.Path.{◌≡◌, refl, sym, ap, ◌∙◌}
use mathlib.Core.List.{List}
use Prim.Native.Nat.{ℕ, zero, suc, ◌+◌, ◌-◌, ◌*◌, ◌/◌, ◌%◌, ◌^◌, ◌≤◌, ◌<◌}
use native.Mathlib.Nat.{le_refl, add-zero, add-suc, add_assoc, mul_assoc, mul_right_comm, add-mul, pow-suc, zero-div, div-one, one-mul, mod-lt, mod-add-div', add-mul-mod_self_right, lt_of_lt_of_le}
use native.Mathlib.Omega.{arith}
use lib.Dec.{lit<, lit≤}
use lib.ListN.{length, get_or, get_or-eq_default}
use lib.Pow.{shr-shr, shl-shr, shl_lt, shl_exact, pow-add, pow_pos, pow_mono, high, low, field}
use Rattle.getbits.specs.Bits.{bit_at, bits_at, bit_count}
use Rattle.getbits.specs.Words.{four_bytes, eight_bytes}

-- n bits write a number below 2 ^ n
pub bits_lt : (s : List ℕ) (i n : ℕ) → bits_at s i n < 2 ^ n
unfolding bits_at
bits_lt s i zero = lit< tt
bits_lt s i (suc n) = omega (arith, bits_lt s i n, pow-suc 2 n)

-- m bits and then n
pub bits_add : (s : List ℕ) (i m n : ℕ) → bits_at s i (m + n) ≡ bits_at s i m * 2 ^ n + bits_at s (i + m) n
unfolding bits_at
bits_add s i m zero = rw (add-zero m) (omega arith)
bits_add s i m (suc n) =
    rw (add-suc m n)
    (let p : bits_at s i m * 2 ^ suc n ≡ bits_at s i m * 2 ^ n * 2 = ap (λ (k : ℕ). bits_at s i m * k) (pow-suc 2 n) ∙ sym (mul_assoc (bits_at s i m) (2 ^ n) 2) in
    let q : bit_at s (i + (m + n)) ≡ bit_at s (i + m + n) = ap (bit_at s) (sym (add_assoc i m n)) in
    omega (arith, bits_add s i m n))

pub bits_one : (s : List ℕ) (i : ℕ) → bits_at s i 1 ≡ bit_at s i
unfolding bits_at
bits_one s i = rw (add-zero i) (omega arith)

-- bit k of byte j
pub bit_of_lem : (s : List ℕ) (j k : ℕ) → k < 8 → bit_at s (8 * j + k) ≡ get_or s j 0 / 2 ^ (7 - k) % 2
bit_of_lem s j k h =
    let d : (8 * j + k) / 8 ≡ j = omega arith in
    let m : (8 * j + k) % 8 ≡ k = omega arith in
    rw (d, m)

-- the first n bits of a byte write it less its other bits
byte_top : (s : List ℕ) (j n : ℕ) → n ≤ 8 → get_or s j 0 < 256 → bits_at s (8 * j) n ≡ get_or s j 0 / 2 ^ (8 - n)
unfolding bits_at
byte_top s j zero l h = omega arith
byte_top s j (suc n) l h =
    let up : 8 - n ≡ (7 - n) + 1 = omega arith in
    let down : 8 - suc n ≡ 7 - n = omega arith in
    let half : get_or s j 0 / 2 ^ (8 - n) ≡ get_or s j 0 / 2 ^ (7 - n) / 2 = rw up (sym (shr-shr (get_or s j 0) (7 - n) 1)) in
    rw (byte_top s j n (omega arith) h, bit_of_lem s j n (omega arith), down, half) (omega arith)

-- the eight bits of a byte write it
pub byte_bits : (s : List ℕ) (j : ℕ) → get_or s j 0 < 256 → bits_at s (8 * j) 8 ≡ get_or s j 0
byte_bits s j h = byte_top s j 8 (lit≤ tt) h ∙ div-one (get_or s j 0)

four_bytes_lem : (s : List ℕ) (i : ℕ) → ((k : ℕ) → get_or s k 0 < 256) → bits_at s (8 * i) 32 ≡ four_bytes s i
four_bytes_lem s i h =
    let next : (k : ℕ) → 8 * i + 8 * k ≡ 8 * (i + k) = λ k. omega arith in
    let b : (k : ℕ) → bits_at s (8 * i) (8 * k + 8) ≡ bits_at s (8 * i) (8 * k) * 256 + get_or s (i + k) 0 =
    λ k. bits_add s (8 * i) (8 * k) 8 ∙ ap (λ (x : ℕ). bits_at s (8 * i) (8 * k) * 256 + x) (ap (λ (x : ℕ). bits_at s x 8) (next k) ∙ byte_bits s (i + k) (h (i + k))) in
    omega (arith, byte_bits s i (h i), b 1, b 2, b 3)

eight_bytes_lem : (s : List ℕ) (i : ℕ) → ((k : ℕ) → get_or s k 0 < 256) → bits_at s (8 * i) 64 ≡ eight_bytes s i
eight_bytes_lem s i h =
    let e : 8 * i + 32 ≡ 8 * (i + 4) = omega arith in
    bits_add s (8 * i) 32 32 ∙ rw (e, four_bytes_lem s i h, four_bytes_lem s (i + 4) h)

-- the first n of n + r bits
pub bits_top : (s : List ℕ) (i n r : ℕ) → bits_at s i (n + r) / 2 ^ r ≡ bits_at s i n
bits_top s i n r = rw (bits_add s i n r, high (bits_at s i n) r (bits_lt s (i + n) r))

-- the n bits behind the first u of t bits, with r behind them
pub window : (s : List ℕ) (i u n r t : ℕ) → u + n + r ≡ t → bits_at s i t / 2 ^ r % 2 ^ n ≡ bits_at s (i + u) n
window s i u n r t e = rw (sym e, bits_top s i (u + n) r, bits_add s i u n, low (bits_at s i u) n (bits_lt s (i + u) n))

-- past the end every bit is 0
pub bit_past : (s : List ℕ) (i : ℕ) → bit_count s ≤ i → bit_at s i ≡ 0
bit_past s i h =
    let k : length s ≤ i / 8 = omega arith in
    rw (get_or-eq_default s 0 k, zero-div (2 ^ (7 - i % 8)))

bits_past : (s : List ℕ) (i n : ℕ) → bit_count s ≤ i → bits_at s i n ≡ 0
unfolding bits_at
bits_past s i zero h = refl
bits_past s i (suc n) h = rw (bits_past s i n h, bit_past s (i + n) (omega arith))

-- what a shift drops may be dropped before it
mod_mul : (x y m : ℕ) → x % m * y % m ≡ x * y % m
mod_mul x y m =
    sym (ap (λ (z : ℕ). z * y % m) (sym (mod-add-div' x m))
    ∙ ap (λ (z : ℕ). z % m) (add-mul (x % m) (x / m * m) y ∙ ap (λ (z : ℕ). x % m * y + z) (mul_right_comm (x / m) m y))
    ∙ add-mul-mod_self_right (x % m * y) (x / m * y) m)

-- the last eight bytes, of which l stand from i on, moved to the front are the eight bytes from i on
pub bytes_back : (s : List ℕ) (i l c : ℕ) → ((k : ℕ) → get_or s k 0 < 256) → i + l ≡ length s → 8 ≤ length s → 8 * l + (8 + c) ≡ 64
    → eight_bytes s (length s - 8) * 2 ^ 8 % 2 ^ 64 * 2 ^ c % 2 ^ 64 ≡ eight_bytes s i
bytes_back s i l c b e h f =
    let j = length s - 8 in
    let up : ℕ = 2 ^ (8 + c) in
    let front : ℕ = bits_at s (8 * j) (8 + c) in
    let back : ℕ = bits_at s (8 * i) (8 * l) in
    let at : 8 * j + (8 + c) ≡ 8 * i = omega arith in
    let past : 8 * i + 8 * l ≡ bit_count s = omega arith in
    let all : 8 + c + 8 * l ≡ 64 = omega arith in
    let last : eight_bytes s j ≡ front * 2 ^ (8 * l) + back =
    sym (eight_bytes_lem s j b) ∙ ap (bits_at s (8 * j)) (sym all) ∙ bits_add s (8 * j) (8 + c) (8 * l) ∙ ap (λ (x : ℕ). front * 2 ^ (8 * l) + bits_at s x (8 * l)) at in
    let here : eight_bytes s i ≡ back * up =
    sym (eight_bytes_lem s i b) ∙ ap (bits_at s (8 * i)) (sym f) ∙ bits_add s (8 * i) (8 * l) (8 + c)
    ∙ ap (λ (x : ℕ). back * up + x) (ap (λ (x : ℕ). bits_at s x (8 + c)) past ∙ bits_past s (bit_count s) (8 + c) (le_refl (bit_count s))) ∙ add-zero (back * up) in
    let whole : 2 ^ (8 * l) * up ≡ 2 ^ 64 = sym (pow-add 2 (8 * l) (8 + c)) ∙ ap (λ (x : ℕ). 2 ^ x) f in
    let small : back * up < 2 ^ 64 = rw f at (shl_lt (8 * l) (8 + c) (bits_lt s (8 * i) (8 * l))) in
    mod_mul (eight_bytes s j * 2 ^ 8) (2 ^ c) (2 ^ 64)
    ∙ ap (λ (x : ℕ). x % 2 ^ 64) (mul_assoc (eight_bytes s j) (2 ^ 8) (2 ^ c) ∙ ap (λ (x : ℕ). eight_bytes s j * x) (sym (pow-add 2 8 c)))
    ∙ ap (λ (x : ℕ). x * up % 2 ^ 64) last
    ∙ ap (λ (x : ℕ). x % 2 ^ 64) (add-mul (front * 2 ^ (8 * l)) back up ∙ ap (λ (x : ℕ). x + back * up) (mul_assoc front (2 ^ (8 * l)) up ∙ ap (λ (x : ℕ). front * x) whole))
    ∙ low front 64 small
    ∙ sym here

-- a field of four bytes is the bits that stand there, and so is one of eight
pub four_field : (s : List ℕ) (i u n : ℕ) → ((k : ℕ) → get_or s k 0 < 256) → u < 8 → n ≤ 25 → four_bytes s i / 2 ^ (32 - (u + n)) % 2 ^ n ≡ bits_at s (8 * i + u) n
four_field s i u n b h k = ap (λ (x : ℕ). x / 2 ^ (32 - (u + n)) % 2 ^ n) (sym (four_bytes_lem s i b)) ∙ window s (8 * i) u n (32 - (u + n)) 32 (omega arith)

pub bytes_field : (s : List ℕ) (i u n : ℕ) → ((k : ℕ) → get_or s k 0 < 256) → u < 8 → n ≤ 32 → eight_bytes s i / 2 ^ (64 - (u + n)) % 2 ^ n ≡ bits_at s (8 * i + u) n
bytes_field s i u n b h k = ap (λ (x : ℕ). x / 2 ^ (64 - (u + n)) % 2 ^ n) (sym (eight_bytes_lem s i b)) ∙ window s (8 * i) u n (64 - (u + n)) 64 (omega arith)

-- 1 shifted by less than the width
pub shl_one : (n w : ℕ) → n < w → 1 * 2 ^ n % 2 ^ w ≡ 2 ^ n
shl_one n w h = shl_exact {a = 1} 1 n w (lit< tt) (omega arith) ∙ one-mul (2 ^ n)

pub field_lt : (x n : ℕ) → n ≤ 32 → x % 2 ^ n < 2 ^ 32
field_lt x n h = lt_of_lt_of_le (mod-lt x (pow_pos n)) (pow_mono h)

-- a shift by w - k, which may be the whole width w, in two steps
two_steps : (x k w : ℕ) → k < w → x / 2 / 2 ^ (w - 1 - k) ≡ x / 2 ^ (w - k)
two_steps x k w h =
    let e : 1 + (w - 1 - k) ≡ w - k = omega arith in
    shr-shr x 1 (w - 1 - k) ∙ ap (λ (y : ℕ). x / 2 ^ y) e

-- of w bits a shift drops the u before a field of n, and another what stands behind it
pub shift_field : (x u n w : ℕ) → u + n ≤ w → x * 2 ^ u % 2 ^ w / 2 ^ (w - n) ≡ x / 2 ^ (w - (u + n)) % 2 ^ n
shift_field x u n w h =
    let y = x * 2 ^ u in
    let whole : w ≡ n + (w - n) = omega arith in
    let rest : w - n ≡ u + (w - (u + n)) = omega arith in
    ap (λ (z : ℕ). y % 2 ^ z / 2 ^ (w - n)) whole
    ∙ field y n (w - n)
    ∙ ap (λ (z : ℕ). y / 2 ^ z % 2 ^ n) rest
    ∙ ap (λ (z : ℕ). z % 2 ^ n) (sym (shr-shr y u (w - (u + n))) ∙ ap (λ (z : ℕ). z / 2 ^ (w - (u + n))) (shl-shr x u))

-- the same with the other in two steps
pub shifts : (x u n w : ℕ) → u + n ≤ w → n < w → x * 2 ^ u % 2 ^ w / 2 / 2 ^ (w - 1 - n) ≡ x / 2 ^ (w - (u + n)) % 2 ^ n
shifts x u n w h k = two_steps (x * 2 ^ u % 2 ^ w) n w k ∙ shift_field x u n w h
