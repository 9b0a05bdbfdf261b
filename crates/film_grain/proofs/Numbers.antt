-- The numbers that are read, and their ranges. Assumes nothing.
use mathlib.Core.List.{List}
use mathlib.Core.Path.{◌≡◌, refl, sym, ap, ◌∙◌}
use Prim.Native.Nat.{ℕ, zero, suc, ◌-◌, ◌*◌, ◌%◌, ◌^◌, ◌<◌, ◌≤◌}
use native.Mathlib.Nat.{le_refl, pow-suc}
use native.Mathlib.Omega.{arith}
use lib.IntN.{pos, ◌-ℤ◌}
use lib.Pow.{pow_pos, pow_mono}
use lib.Signed.{mag}
use Rattle.getbits.specs.Bits.{get_bits}
use Rattle.getbits.specs.Chain.{then}
use Rattle.getbits.specs.declared.Read.{Read}
use Rattle.getbits.specs.declared.Place.{Place}
use Rattle.getbits.proofs.Chain.{through}
use Rattle.getbits.proofs.Widths.{difference}
use Rattle.seq_fields.specs.Fields.{get_small}
use Rattle.seq_fields.proofs.Bounds.{bits_below}
use Rattle.film_grain.specs.Coeffs.{bits_less, num_pos}

-- at most k bits give a number below 2 ^ k
pub at_most : (s : List ℕ) (p : Place) (n k : ℕ) {r : Read ℕ} → n ≤ k → r ≡ get_bits s p (pos n) → r.value < 2 ^ k
at_most s p n k h e = omega (arith, bits_below s p n e, pow_mono {i = n} {j = k} h)

-- bits less half their range
pub half_range : (s : List ℕ) (p : Place) (n : ℕ) → 1 ≤ n → mag (bits_less s p n (2 ^ (n - 1))).value < 2 ^ (n - 1)
unfolding bits_less then
half_range s p n h =
    let k = n - 1 in
    let e : n ≡ suc k = omega arith in
    let twice : 2 ^ n ≡ 2 ^ k * 2 = ap (λ (m : ℕ). 2 ^ m) e ∙ pow-suc 2 k in
    difference (get_bits s p (pos n)).value (2 ^ k) (2 ^ k) (omega (arith, bits_below s p n refl, twice)) (le_refl (2 ^ k)) (pow_pos k)

-- a lag of two bits
pub num_pos_lem : (lag : ℕ) → lag < 4 → num_pos lag ≤ 24
num_pos_lem zero h = omega arith
num_pos_lem (suc zero) h = omega arith
num_pos_lem (suc (suc zero)) h = omega arith
num_pos_lem (suc (suc (suc zero))) h = omega arith
num_pos_lem (suc (suc (suc (suc n)))) h = absurd (omega arith)

-- a field of at most eight bits is not cut
pub uncut : (s : List ℕ) (p : Place) (n : ℕ) {r : Read ℕ} → n ≤ 8 → get_bits s p (pos n) ≡ r → get_small s p n ≡ record { value = r.value; next = r.next }
unfolding get_small
uncut s p n {r} h e =
    let whole : r.value % 256 ≡ r.value = omega (arith, bits_below s p n (sym e), pow_mono {i = n} {j = 8} h) in
    through _ _ (sym e) ∙ rw whole

-- n bits less a number
pub less_read : (s : List ℕ) (p : Place) (n less : ℕ) {r : Read ℕ} → get_bits s p (pos n) ≡ r → bits_less s p n less ≡ record { value = pos r.value -ℤ pos less; next = r.next }
unfolding bits_less
less_read s p n less e = through _ _ (sym e)
