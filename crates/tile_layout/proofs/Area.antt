-- The logarithms stay within 6, and the tiles of a non-uniform layout within the area limit. Assumes nothing.
use mathlib.Core.Path.{◌≡◌, sym, ◌∙◌, ap, subst}
use Prim.Native.Nat.{ℕ, zero, suc, ◌+◌, ◌-◌, ◌*◌, ◌/◌, ◌^◌, min, max, ◌≤◌}
use native.Mathlib.Nat.{mul_assoc, mul_right_comm, mul-le-mul, mul-le-mul_left, mul-le-mul_right, le_of_mul-le-mul_right, le_trans, le_of_eq, mul-div-le, div-le_of_le-mul, mul-one, mul_comm}
use native.Mathlib.Omega.{arith}
use native.Mathlib.Decide.{dec_le}
use lib.Pow.{pow_pos, pow_mono, pow-add}
use lib.Dec.{eqb, eqb-suc-zero}
use Rattle.getbits.specs.Chain.{pick}
use Rattle.tile_layout.specs.declared.TileArgs.{TileArgs}
use Rattle.tile_layout.specs.Limits.{sbw, sbh, width_limit, area_limit, tile_log2, min_log2_cols, max_log2_cols, max_log2_rows, min_log2_tiles}
use Rattle.tile_layout.specs.Layout.{row_area, row_limit}
use Rattle.tile_layout.proofs.Domain.{InDomain, Limited, across, down, limits}
use Rattle.tile_layout.proofs.Logs.{reaches, least}

area_fits : (x y w p m g : ℕ) → 1 ≤ g → x ≤ w * p → y * g ≤ 1024 → 36 * w ≤ m * g → x * y ≤ m * (p * 64)
area_fits x y w p m g g₁ hx hy hm =
    let a : x * (y * g) ≤ (w * p) * 1024 = mul-le-mul hx hy in
    let b : (36 * w) * (p * 64) ≤ (m * g) * (p * 64) = mul-le-mul_right (p * 64) hm in
    let c : (36 * w) * (p * 64) ≡ 36 * ((w * p) * 64) = mul_assoc 36 w (p * 64) ∙ ap (◌*◌ 36) (sym (mul_assoc w p 64)) in
    let d : x * y * g ≤ m * (p * 64) * g = omega (arith, mul_assoc x y g, mul_right_comm m g (p * 64)) in
    le_of_mul-le-mul_right {m = x * y} {n = m * (p * 64)} {k = g} d g₁

module _ (a : TileArgs) (d : InDomain a) where
  lim : Limited a.frame_code (width_limit a) (area_limit a)
  lim = limits a d

  pub min_cols : min_log2_cols a ≤ 6
  unfolding min_log2_cols
  min_cols = least 20 (width_limit a) (sbw a) 6 (omega (arith, (across a d).most_all, lim.some))

  pub max_cols : max_log2_cols a ≤ 6
  unfolding max_log2_cols
  max_cols = least 20 1 (min (sbw a) 64) 6 (omega arith)

  pub max_rows : max_log2_rows a ≤ 6
  unfolding max_log2_rows
  max_rows = least 20 1 (min (sbh a) 64) 6 (omega arith)

  -- columns by a logarithm of at least the least are narrow enough
  pub covers : (log : ℕ) → min_log2_cols a ≤ log → sbw a ≤ width_limit a * 2 ^ log
  unfolding min_log2_cols
  covers log h =
      le_trans (reaches 20 (width_limit a) (sbw a) (omega (arith, (across a d).most_all, lim.some)))
      (mul-le-mul_left (width_limit a) (pow_mono h))

  pub min_rows : (log : ℕ) → min_log2_cols a ≤ log → min_log2_tiles a - log ≤ 6
  unfolding min_log2_tiles
  min_rows log h =
      let fit : sbw a * sbh a ≤ area_limit a * (2 ^ log * 64) =
      area_fits (sbw a) (sbh a) (width_limit a) (2 ^ log) (area_limit a) (2 ^ a.frame_code) (pow_pos a.frame_code) (covers log h) (down a d).most lim.wide in
      let tiles : tile_log2 (area_limit a) (sbw a * sbh a) ≤ log + 6 =
      least 20 (area_limit a) (sbw a * sbh a) (log + 6) (rw (pow-add 2 log 6) fit) in
      omega arith

  pub area_low : sbw a * sbh a ≤ 1048576
  area_low = mul-le-mul (across a d).most_all (down a d).most_all

  area_covers : sbw a * sbh a ≤ area_limit a * 2 ^ min_log2_tiles a
  unfolding min_log2_tiles
  area_covers =
      le_trans (reaches 20 (area_limit a) (sbw a * sbh a) (omega (arith, area_low, lim.some, lim.under)))
      (mul-le-mul_left (area_limit a) (pow_mono (omega arith)))

  pub row_area_lem : row_area a ≤ area_limit a
  unfolding row_area
  row_area_lem = go (min_log2_tiles a) area_covers
    where
      go : (t : ℕ) → sbw a * sbh a ≤ area_limit a * 2 ^ t → pick (eqb t 0) (sbw a * sbh a) (sbw a * sbh a / 2 ^ (t + 1)) ≤ area_limit a
      go zero h = omega (arith, mul-one (area_limit a))
      go (suc t) h =
          rw (eqb-suc-zero t)
          (div-le_of_le-mul (2 ^ (suc t + 1))
          (le_trans h (le_trans (mul-le-mul_left (area_limit a) (pow_mono (omega arith))) (le_of_eq (mul_comm (area_limit a) (2 ^ (suc t + 1)))))))

  pub tile_area : (w : ℕ) → w ≤ width_limit a → w * row_limit a w ≤ area_limit a
  unfolding row_limit
  tile_area w h =
      elim (dec_le (row_area a / w) 1) [
        | yes y ↦
            let q : 1 ≡ max 1 (row_area a / w) = omega arith in
            subst (λ (q : ℕ). w * q ≤ area_limit a) q (omega (arith, mul-one w, lim.under))
        | no n ↦
            let q : row_area a / w ≡ max 1 (row_area a / w) = omega arith in
            subst (λ (q : ℕ). w * q ≤ area_limit a) q (le_trans (mul-div-le (row_area a) w) row_area_lem)
      ]

  pub low_tiles : min_log2_tiles a ≤ 12
  low_tiles = omega (arith, min_rows (min_log2_cols a) (omega arith), min_cols)
