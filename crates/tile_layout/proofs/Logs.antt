-- The least logarithm, and the logarithm that is read. Assumes nothing.
use mathlib.Core.Logic.{⊎_elim}
use mathlib.Core.Path.{◌≡◌, refl, sym, ◌∙◌, ap}
use mathlib.Core.List.{List}
use Prim.Native.Nat.{ℕ, zero, suc, ◌+◌, ◌-◌, ◌*◌, ◌^◌, ◌≤◌, ◌<◌}
use native.Mathlib.Nat.{mul-one, mul_assoc, mul_comm, pow-suc, mul-le-mul_left, mul-le-mul_right, mul-lt-mul_of_pos_right, lt_of_lt_of_le}
use native.Mathlib.Numerals.{add-one}
use native.Mathlib.Omega.{arith}
use lib.Dec.{ltb}
use lib.Pow.{pow-add, pow_mono, pow_pos}
use borrow.Author.Tests.{ltb-false, le-ltb}
use Rattle.getbits.specs.declared.Place.{Place}
use Rattle.getbits.proofs.Chain.{picked}
use Rattle.getbits.proofs.Places.{lt_or_le}
use Rattle.codes.proofs.Runs.{run_le}
use Rattle.tile_layout.specs.Limits.{doublings}
use Rattle.tile_layout.specs.Layout.{read_log2}

-- one doubling more
pub twice : (sz k : ℕ) → sz * 2 ^ suc k ≡ sz * 2 * 2 ^ k
twice sz k = ap (◌*◌ sz) (pow-suc 2 k ∙ mul_comm (2 ^ k) 2) ∙ sym (mul_assoc sz 2 (2 ^ k))

-- none is needed
double_none : (most sz tgt : ℕ) → tgt ≤ sz → doublings most sz tgt ≡ 0
unfolding doublings
double_none zero sz tgt h = refl
double_none (suc most) sz tgt h = rw (le-ltb sz tgt h)

-- it reaches the target
pub reaches : (most sz tgt : ℕ) → tgt ≤ sz * 2 ^ most → tgt ≤ sz * 2 ^ doublings most sz tgt
unfolding doublings
reaches zero sz tgt h = h
reaches (suc most) sz tgt h =
    picked (λ (k : ℕ). tgt ≤ sz * 2 ^ k) (ltb sz tgt) (doublings most (sz * 2) tgt + 1) 0
    (λ e. rw (add-one, twice sz (doublings most (sz * 2) tgt)) (reaches most (sz * 2) tgt (rw twice at h)))
    (λ e. rw mul-one (ltb-false sz tgt e))

-- and is the least that does
pub least : (most sz tgt j : ℕ) → tgt ≤ sz * 2 ^ j → doublings most sz tgt ≤ j
unfolding doublings
least zero sz tgt j h = omega arith
least (suc most) sz tgt zero h = omega (arith, double_none (suc most) sz tgt (rw mul-one at h))
least (suc most) sz tgt (suc j) h =
    picked (λ (k : ℕ). k ≤ suc j) (ltb sz tgt) (doublings most (sz * 2) tgt + 1) 0
    (λ e. omega (arith, least most (sz * 2) tgt j (rw twice at h)))
    (λ e. omega arith)

-- by their bit lengths a and b: the difference, or one more where that is not enough
module _ (a b sz tgt : ℕ) (under : sz < 2 ^ a) (top : 2 ^ a ≤ 2 * sz + 1) (tgt-under : tgt < 2 ^ b) (tgt-top : 2 ^ b ≤ 2 * tgt + 1) (some : 1 ≤ sz) where
  half : (n m : ℕ) → 2 ^ suc n ≤ 2 * m + 1 → 2 ^ n ≤ m
  half n m h = omega (arith, pow-suc 2 n, h)

  -- one more is always enough
  enough : (k : ℕ) → b - a ≡ k → tgt ≤ sz * 2 ^ (k + 1)
  enough k e = go a refl
    where
      go : (n : ℕ) → a ≡ n → tgt ≤ sz * 2 ^ (k + 1)
      go zero z = absurd (omega (arith, ap (λ (x : ℕ). 2 ^ x) z, under, some))
      go (suc n) z =
          let low : 2 ^ n ≤ sz = half n sz (rw z at top) in
          let long : 2 ^ b ≤ 2 ^ n * 2 ^ (k + 1) = rw (← pow-add 2 n (k + 1)) (pow_mono (omega arith)) in
          omega (arith, tgt-under, long, mul-le-mul_right (2 ^ (k + 1)) low)

  -- and one less never is
  less : (k : ℕ) → b - a ≡ suc k → sz * 2 ^ k < tgt
  less k e =
      let q : b ≡ suc (a + k) = omega arith in
      let low : 2 ^ (a + k) ≤ tgt = half (a + k) tgt (rw q at tgt-top) in
      lt_of_lt_of_le (rw (pow-add 2 a k) (mul-lt-mul_of_pos_right under (pow_pos k))) low

  module _ (low : tgt ≤ 2 ^ 20) where
    reached : tgt ≤ sz * 2 ^ doublings 20 sz tgt
    reached = reaches 20 sz tgt (omega (arith, low, mul-le-mul_right (2 ^ 20) some))

    pub log_more : sz * 2 ^ (b - a) < tgt → doublings 20 sz tgt ≡ b - a + 1
    log_more h =
        let d = doublings 20 sz tgt in
        ⊎_elim
        (λ l. omega (arith, least 20 sz tgt (b - a + 1) (enough (b - a) refl)))
        (λ l. absurd (omega (arith, h, reached, mul-le-mul_left sz (pow_mono l))))
        (lt_or_le (b - a) d)

    pub log_is : tgt ≤ sz * 2 ^ (b - a) → doublings 20 sz tgt ≡ b - a
    log_is h = go (b - a) refl h
      where
        go : (k : ℕ) → b - a ≡ k → tgt ≤ sz * 2 ^ k → doublings 20 sz tgt ≡ k
        go zero e r = omega (arith, least 20 sz tgt 0 r)
        go (suc k) e r =
            ⊎_elim
            (λ l. omega (arith, least 20 sz tgt (suc k) r))
            (λ l. absurd (omega (arith, less k e, reached, mul-le-mul_left sz (pow_mono l))))
            (lt_or_le k (doublings 20 sz tgt))

pub log_read : (s : List ℕ) (p : Place) (lo hi : ℕ) → (lo ≤ (read_log2 s p lo hi).value) × ((read_log2 s p lo hi).value ≤ lo + (hi - lo))
unfolding read_log2
log_read s p lo hi = omega (arith, run_le 1 (hi - lo) s p)
