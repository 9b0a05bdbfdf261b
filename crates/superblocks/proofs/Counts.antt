-- Sizes that fit, and the multiplier. Assumes nothing.
use Rattle.std.proofs.Common.{◌≡◌, ℕ, zero, suc, ◌+◌, ◌-◌, ◌*◌, ◌/◌, ◌%◌, ◌^◌, ◌<◌, ◌≤◌, Bool, true, false, ◌&&◌, T, eqb, List, refl, subst, le_trans, lt_of_le_of_lt, mul-le-mul, mul-le-mul_left, div-mul-le_self, arith, lit<}
use native.Mathlib.Nat.{div-le_of_le-mul}
use Rattle.codes.specs.Codes.{get_uniform}
use Rattle.codes.proofs.Callers.{uniform_lt}
use Rattle.getbits.specs.Chain.{pick}
use Rattle.getbits.proofs.Chain.{picked}
use Rattle.getbits.specs.declared.Place.{Place}
use Rattle.tile_layout.proofs.Domain.{Pair, pairs}
use Rattle.superblocks.specs.Counts.{multiplier_of}

-- a quotient by a superblock's size fits 32 bits
pub quotient_fits : (x s : ℕ) → x < 2 ^ 33 → 64 ≤ s → x / s < 2 ^ 32
quotient_fits x s h k = lt_of_le_of_lt (div-le_of_le-mul s {n = 134217728} (omega arith)) (lit< tt)

-- a part of a quotient, multiplied again
pub part_le : (x t : ℕ) → x / t * (t - 1) ≤ x
part_le x t = le_trans (mul-le-mul_left (x / t) (omega arith)) (div-mul-le_self x t)

-- a size read fits
pub uniform_fits : (s : List ℕ) (p : Place) (max : ℕ) → max < 2 ^ 32 → (get_uniform s p max).value + 1 < 2 ^ 32
unfolding get_uniform
uniform_fits s p zero h = omega arith
uniform_fits s p (suc max) h = omega (arith, uniform_lt s p (suc max) (omega arith))

-- a legal pair has its multiplier
pub legal : (f q m : ℕ) → Pair f q m → multiplier_of f q ≡ m
unfolding multiplier_of
legal = pairs (λ f q m. multiplier_of f q ≡ m) refl refl refl refl

-- the multiplier is at most 2
pub low_multiplier : (f q : ℕ) → multiplier_of f q ≤ 2
unfolding multiplier_of
low_multiplier f q = picked (λ (m : ℕ). m ≤ 2) (eqb f 1 && eqb q 2) 2 1 (λ e. omega arith) (λ e. omega arith)

-- and 1 where it is not 2
pub not_doubled : (f q : ℕ) → eqb (multiplier_of f q) 2 ≡ false → multiplier_of f q ≡ 1
unfolding multiplier_of
not_doubled f q e = by (eqb f 1 && eqb q 2) e
  where
    by : (b : Bool) → eqb (pick b 2 1) 2 ≡ false → ◌≡◌ {A = ℕ} (pick b 2 1) 1
    by true e = absurd (subst T e tt)
    by false e = refl

-- a start in the frame's superblocks, as it is stored
pub start_fits : (m x : ℕ) → m ≤ 2 → x ≤ 1024 → m * x % 4294967296 % 65536 ≡ m * x
start_fits m x h k = omega (arith, mul-le-mul {n₂ = 2} {m₂ = 1024} h k)
