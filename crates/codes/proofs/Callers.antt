-- What callers may use of the readings of variable length. Assumes nothing.
use mathlib.Core.Bool.{Bool, true, ◌&&◌}
use mathlib.Core.Path.{◌≡◌, sym, ap, ◌∙◌}
use mathlib.Core.Logic.{⊎_elim}
use mathlib.Core.List.{List}
use Prim.Native.Nat.{ℕ, zero, suc, ◌+◌, ◌-◌, ◌*◌, ◌^◌, ◌≤◌, ◌<◌}
use native.Mathlib.Nat.{pow-suc, lt_irrefl, lt_of_lt_of_le, lt_of_le_of_lt}
use native.Mathlib.Omega.{arith}
use borrow.Author.Tests.{lt-leb, ltb-true, ltb-false, leb-true, leb-false}
use lib.Count.{leading_top}
use lib.Dec.{leb, ltb, eqb}
use lib.ListN.{length}
use lib.IntN.{ℤ, nat_abs}
use lib.Pow.{pow_mono}
use Rattle.getbits.specs.Bits.{bit_count, position, read_bits, get_bit, refused, settled}
use Rattle.getbits.specs.Chain.{pick, then}
use Rattle.getbits.specs.declared.Read.{Read}
use Rattle.getbits.specs.declared.Place.{Place}
use Rattle.getbits.proofs.Chain.{both, picked, through, left}
use Rattle.getbits.proofs.Places.{lt_or_le, pos_in}
use Rattle.getbits.proofs.Callers.{read_lt, bit_lt}
use Rattle.codes.specs.Codes.{plus, bit_length, get_uniform, subexp_from, inv_recenter, subexp_args, get_bits_subexp_u}
use Rattle.codes.proofs.Args.{args_known}
use Rattle.codes.proofs.Recenter.{recenter_lt}

pub pow_lt_only : (i j : ℕ) → 2 ^ i < 2 ^ j → i < j
pow_lt_only i j h = ⊎_elim (λ k. k) (λ k. absurd (lt_irrefl (2 ^ i) (lt_of_lt_of_le h (pow_mono k)))) (lt_or_le i j)

-- the bit length of x: 2 ^ (l - 1) is at most x, and x is below 2 ^ l
pub length_is : (x : ℕ) → 1 ≤ x → x < 2 ^ 31 → (1 ≤ bit_length x) × (bit_length x < 32) × (x < 2 ^ bit_length x) × (2 ^ (bit_length x - 1) ≤ x)
length_is x h k =
    let t = leading_top 32 x h (omega arith) in
    let l : bit_length x ≡ suc t.0 = omega (arith, t.1) in
    let j : t.0 < 31 = pow_lt_only t.0 31 (lt_of_le_of_lt t.2 k) in
    let m : suc t.0 - 1 ≡ t.0 = omega arith in
    rw l (omega arith, omega arith, t.3, rw m t.2)

-- the same of a number that is the bit length
pub length_at : (x l : ℕ) → l ≡ bit_length x → 1 ≤ x → x < 2 ^ 31 → (1 ≤ l) × (l < 32) × (x < 2 ^ l) × (2 ^ (l - 1) ≤ x)
length_at x l e h k = rw e (length_is x h k)

-- get_uniform with more numbers than one: l bits, or one less for the first m of them
pub uniform_more : (s : List ℕ) (p : Place) (max l m : ℕ) → l ≡ bit_length max → m ≡ 2 ^ bit_length max - max → 2 ≤ max → max < 2 ^ 31
    → get_uniform s p max ≡ (then (read_bits s p (l - 1)) λ r. pick (ltb r.value m) r (then (get_bit s r.next) λ b. record { value = 2 * r.value - m + b.value; next = b.next }))
unfolding get_uniform
uniform_more s p max l m el em some low =
    left _ _ _ (lt-leb max 1 some)
    ∙ left _ _ _ (lt-leb (2 ^ 31) max low)
    ∙ through _ _ el
    ∙ through _ _ (em ∙ ap (λ (n : ℕ). 2 ^ n - max) (sym el))

-- one of max numbers is below max
pub uniform_lt : (s : List ℕ) (p : Place) (max : ℕ) → 1 ≤ max → (get_uniform s p max).value < max
unfolding get_uniform then
uniform_lt s p max h =
    let P : Read ℕ → Type 0 = λ r. r.value < max in
    let l = bit_length max in
    let v : Read ℕ = read_bits s p (l - 1) in
    let b : Read ℕ = get_bit s v.next in
    let long : Read ℕ = record { value = 2 * v.value - (2 ^ l - max) + b.value; next = b.next } in
    picked P (leb max 1) (record { value = 0; next = settled s p }) (pick (leb (2 ^ 31) max) (refused s p) (pick (ltb v.value (2 ^ l - max)) v long))
    (λ _. h)
    (λ one.
    picked P (leb (2 ^ 31) max) (refused s p) (pick (ltb v.value (2 ^ l - max)) v long)
    (λ _. h)
    (λ over.
    let is = length_is max h (leb-false (2 ^ 31) max over) in
    let vs : v.value < 2 ^ (l - 1) = read_lt s p (l - 1) in
    let bs : b.value < 2 = bit_lt s v.next in
    let e : 2 ^ l ≡ 2 ^ (l - 1) * 2 = ap (λ (x : ℕ). 2 ^ x) (omega arith) ∙ pow-suc 2 (l - 1) in
    picked P (ltb v.value (2 ^ l - max)) v long
    (λ t. omega (arith, ltb-true v.value (2 ^ l - max) t, vs, is.3, e))
    (λ t. omega (arith, ltb-false v.value (2 ^ l - max) t, vs, bs, is.2, is.3, e))))

-- a number below n in steps is below n
pub subexp_lt : (t : ℕ) (s : List ℕ) (p : Place) (n k i v : ℕ) → v < n → (subexp_from t s p n k i v).value < n
unfolding subexp_from then
subexp_lt zero s p n k i v h = omega arith
subexp_lt (suc t) s p n k i v h =
    let b = k + (i - 1) in
    let g = get_bit s p in
    let P : Read ℕ → Type 0 = λ r. r.value < n in
    let here = plus v (read_bits s g.next b) in
    let on = subexp_from t s g.next n k (i + 1) (v + 2 ^ b) in
    picked P (leb n (v + 3 * 2 ^ b)) (plus v (get_uniform s p (n - v))) (pick (eqb g.value 0) here on)
    (λ _. omega (arith, uniform_lt s p (n - v) (omega arith)))
    (λ f.
    let over = leb-false n (v + 3 * 2 ^ b) f in
    picked P (eqb g.value 0) here on
    (λ _. omega (arith, over, read_lt s g.next b))
    (λ _. subexp_lt t s g.next n k (i + 1) (v + 2 ^ b) (omega (arith, over))))

-- and so is one laid out around a reference
pub subexp_u_lt : (s : List ℕ) (p : Place) (ref n : ℕ) (k : ℤ) → 1 ≤ n → (get_bits_subexp_u s p ref n k).value < n
unfolding get_bits_subexp_u then
subexp_u_lt s p ref n k h =
    let r = subexp_from 33 s p n (nat_abs k) 0 0 in
    let low = inv_recenter ref r.value in
    let high = n - 1 - inv_recenter (n - 1 - ref) r.value in
    picked (λ (x : Read ℕ). x.value < n) (subexp_args ref n k) (record { value = pick (leb (2 * ref) n) low high; next = r.next }) (refused s p)
    (λ a.
    picked (λ (x : ℕ). x < n) (leb (2 * ref) n) low high
    (λ t. recenter_lt ref r.value n (leb-true (2 * ref) n t) (args_known ref n k a).2 (subexp_lt 33 s p n (nat_abs k) 0 0 h))
    (λ _. omega arith))
    (λ _. h)

-- where eight bytes are left, so are 32 bits
pub eight_there : (s : List ℕ) (p : Place) {r : Bool} → r ≡ ltb p.used 8 && leb (p.byte + 8) (length s) → r ≡ true → (p.used < 8) × (p.byte + 8 ≤ length s) × (position s p + 32 ≤ bit_count s)
eight_there s p e t =
    let both = both (ltb p.used 8) (leb (p.byte + 8) (length s)) (sym e ∙ t) in
    let u = ltb-true p.used 8 both.0 in
    let b = leb-true (p.byte + 8) (length s) both.1 in
    (u, b, omega (arith, pos_in s p (omega (arith, b)) u))
