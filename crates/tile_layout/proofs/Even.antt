-- The even cut: `full` superblocks of `all` (full ≤ all ≤ full + 1) into 2 ^ log tiles, of which none exceeds `most`. Assumes nothing.
use mathlib.Core.Path.{◌≡◌, refl, sym, ◌∙◌, ap, subst}
use Prim.Native.Nat.{ℕ, zero, suc, ◌+◌, ◌-◌, ◌*◌, ◌/◌, ◌%◌, ◌^◌, min, ◌≤◌, ◌<◌}
use native.Mathlib.Nat.{mul-zero, zero-mul, div-add-mod', div-le_self, mod-lt, le_of_mul-le-mul_right, mul-le-mul_right}
use native.Mathlib.Decide.{dec_le}
use native.Mathlib.Omega.{arith}
use lib.Pow.{pow_pos, pow_mono}
use Rattle.tile_layout.proofs.Laws.{times_next}
use Rattle.tile_layout.specs.Layout.{base, count, larger, start_at}
use Rattle.getbits.specs.Chain.{pick}
use lib.Dec.{eqb, eqb-suc-zero}

-- from x to y: low or low + 1, and at most `most`
pub record Step (low most x y : ℕ) : Type 0 where
  pub least : x + low ≤ y
  pub largest : y ≤ x + low + 1
  pub limit : y ≤ x + most

-- u i for i < n are the starts, and `all` is the end
pub record EvenCut (n all most : ℕ) (u : ℕ → ℕ) : Type 0 where
  pub low : ℕ
  pub some : 1 ≤ low
  pub few : 1 ≤ n
  pub zeroth : u 0 ≡ 0
  pub inner : (i : ℕ) → i + 1 < n → Step low most (u i) (u (i + 1))
  pub last : (i : ℕ) → i + 1 ≡ n → Step low most (u i) all

module _ (full all log most : ℕ) (some_full : 1 ≤ full) (full_le : full ≤ all) (le_full : all ≤ full + 1) (some-most : 1 ≤ most) (cover : all ≤ most * 2 ^ log) where
  -- b + 1 = full / 2 ^ log superblocks in each tile, and one more in the first full % 2 ^ log
  module _ (b : ℕ) (e : full / 2 ^ log ≡ suc b) where
    split : suc b * 2 ^ log + full % 2 ^ log ≡ full
    split = subst (λ (q : ℕ). q * 2 ^ log + full % 2 ^ log ≡ full) e (div-add-mod' full (2 ^ log))

    -- either there is room for one more, or nothing is left over
    room : (suc b < most → ⊥) → (suc b ≡ most) × (full % 2 ^ log ≡ 0) × (all ≡ full)
    room no_room =
        let fit : suc b ≤ most = le_of_mul-le-mul_right {m = suc b} {n = most} {k = 2 ^ log} (omega (arith, split)) (pow_pos log) in
        let tight : most * 2 ^ log ≤ suc b * 2 ^ log = mul-le-mul_right (2 ^ log) (omega arith) in
        (omega arith, omega (arith, split), omega (arith, split))

    last_start : (i : ℕ) → i + 1 ≡ 2 ^ log → suc b * i + full % 2 ^ log + suc b ≡ full
    last_start i h =
        let q : suc b * 2 ^ log ≡ suc b * i + suc b = ap (◌*◌ (suc b)) (sym h) ∙ times_next (suc b) i in
        omega (arith, split)

    several : EvenCut (2 ^ log) all most (λ i. suc b * i + min i (full % 2 ^ log))
    several =
        record {
          low = suc b;
          some = omega arith;
          few = pow_pos log;
          zeroth = omega (arith, mul-zero (suc b));
          inner = λ i h. elim (dec_le (suc (suc b)) most) [
            | yes r ↦ omega (arith, times_next (suc b) i)
            | no r ↦ omega (arith, times_next (suc b) i, room r)
          ];
          last = λ i h. elim (dec_le (suc (suc b)) most) [
            | yes r ↦ omega (arith, last_start i h, mod-lt full (pow_pos log))
            | no r ↦ omega (arith, last_start i h, mod-lt full (pow_pos log), room r)
          ];
        }

  -- less than one each: `all` tiles of one
  ones : (b : ℕ) → b ≡ 0 → EvenCut all all most (λ i. b * i + min i all)
  ones b e =
      let nil : (i : ℕ) → b * i ≡ 0 = λ i. ap (λ (q : ℕ). q * i) e ∙ zero-mul i in
      record {
        low = 1;
        some = omega arith;
        few = omega arith;
        zeroth = omega (arith, nil 0);
        inner = λ i h. omega (arith, nil i, nil (i + 1));
        last = λ i h. omega (arith, nil i);
      }

  pub even : EvenCut (count full all log) all most (start_at full all log)
  unfolding count start_at base larger
  even = go (full / 2 ^ log) refl
    where
      go : (q : ℕ) → full / 2 ^ log ≡ q → EvenCut (pick (eqb q 0) all (2 ^ log)) all most (λ i. q * i + min i (pick (eqb q 0) all (full % 2 ^ log)))
      go zero e = ones zero refl
      go (suc b) e = rw (eqb-suc-zero b) (several b e)

  -- no more than 64 tiles
  pub few_tiles : log ≤ 6 → count full all log ≤ 64
  unfolding count base
  few_tiles h = go (full / 2 ^ log) refl
    where
      go : (q : ℕ) → full / 2 ^ log ≡ q → pick (eqb q 0) all (2 ^ log) ≤ 64
      go zero e =
          let z : zero * 2 ^ log + full % 2 ^ log ≡ full = subst (λ (q : ℕ). q * 2 ^ log + full % 2 ^ log ≡ full) e (div-add-mod' full (2 ^ log)) in
          omega (arith, zero-mul (2 ^ log), mod-lt full (pow_pos log), pow_mono h)
      go (suc b) e = rw (eqb-suc-zero b) (pow_mono h)

-- the tiles, and what they hold, fit
pub holds : (full all log : ℕ) → full ≤ all → base full log * count full all log + larger full all log ≤ all
unfolding count base larger
holds full all log le = go (full / 2 ^ log) refl
  where
    go : (q : ℕ) → full / 2 ^ log ≡ q → q * pick (eqb q 0) all (2 ^ log) + pick (eqb q 0) all (full % 2 ^ log) ≤ all
    go zero e = omega (arith, zero-mul all)
    go (suc b) e =
        let z : suc b * 2 ^ log + full % 2 ^ log ≡ full = subst (λ (q : ℕ). q * 2 ^ log + full % 2 ^ log ≡ full) e (div-add-mod' full (2 ^ log)) in
        rw (eqb-suc-zero b) (omega arith)

pub base_le : (full log : ℕ) → base full log ≤ full
unfolding base
base_le full log = div-le_self full (2 ^ log)
