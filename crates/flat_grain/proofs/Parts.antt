-- The point lists among the numbers of a record. Assumes nothing.
use mathlib.Core.List.{List, ◌∷◌, [], ◌++◌, map, append_assoc}
use mathlib.Core.Path.{◌≡◌, refl, sym, ap, ◌∙◌}
use Prim.Native.Nat.{ℕ, zero, suc, ◌+◌, ◌<◌}
use native.Mathlib.Omega.{arith}
use lib.IntN.{ℤ, pos, nat_abs}
use lib.ListN.{length, take, drop, length-append}
use lib.Seq.{take_at, drop_at, drop-drop}
use Rattle.film_grain.specs.Promises.{num_points, points_of}
use Rattle.film_grain.specs.declared.FilmGrainData.{FilmGrainData}
use Rattle.film_grain.specs.declared.PlanePoints.{PlanePoints}
use Rattle.flat_grain.specs.Grain.{flat_plane, flat_coeffs, flat_offsets, flat_tail, flat_film_grain, num_points_in, points_in, HasLists}

-- what holds of each of three planes
pub three : (P : ℕ → Type 0) → P 0 → P 1 → P 2 → (pl : ℕ) → pl < 3 → P pl
three P a b c zero h = a
three P a b c (suc zero) h = b
three P a b c (suc (suc zero)) h = c
three P a b c (suc (suc (suc n))) h = absurd (omega arith)

magnitudes : (xs : List ℕ) → map nat_abs (map pos xs) ≡ xs
magnitudes [] = refl
magnitudes (x ∷ xs) = ap (λ (l : List ℕ). x ∷ l) (magnitudes xs)

-- a list of 28 numbers, behind four others and n more
part : (xs a b c : List ℤ) (n : ℕ) → drop 4 xs ≡ a ++ (b ++ c) → length a ≡ n → length b ≡ 28 → take 28 (drop (4 + n) xs) ≡ b
part xs a b c n e h k = rw (← drop-drop n 4 xs, e, drop_at a (b ++ c) n h) (take_at b c 28 k)

module _ (fgd : FilmGrainData) (rest : List ℤ) (full : (pl : ℕ) → pl < 3 → length (flat_plane fgd.points pl) ≡ 28) where
  y : List ℤ
  y = flat_plane fgd.points 0

  u : List ℤ
  u = flat_plane fgd.points 1

  v : List ℤ
  v = flat_plane fgd.points 2

  behind : List ℤ
  behind =
      map pos (fgd.scaling_shift ∷ fgd.ar_coeff_lag ∷ [])
      ++ (flat_coeffs fgd.ar_coeffs
      ++ (map pos (fgd.ar_coeff_shift ∷ fgd.grain_scale_shift ∷ []) ++ (flat_offsets fgd ++ (flat_tail fgd ++ rest))))

  numbers : drop 4 (flat_film_grain fgd ++ rest) ≡ y ++ (u ++ (v ++ behind))
  unfolding flat_film_grain y u v behind
  numbers = simp append_assoc

  plane : (n : ℕ) (a b c : List ℤ) (list : PlanePoints) → y ++ (u ++ (v ++ behind)) ≡ a ++ (b ++ c) → length a ≡ n → length b ≡ 28 → b ≡ map pos list.points
      → ◌≡◌ {A = PlanePoints} (record { points = map nat_abs (take 28 (drop (4 + n) (flat_film_grain fgd ++ rest))) }) list
  plane n a b c list e h k m =
      ap {B = PlanePoints} (λ (l : List ℤ). record { points = map nat_abs l }) (part (flat_film_grain fgd ++ rest) a b c n (numbers ∙ e) h k ∙ m)
      ∙ ap {B = PlanePoints} (λ (l : List ℕ). record { points = l }) (magnitudes list.points)

  pub has_lists : HasLists (flat_film_grain fgd ++ rest) fgd
  unfolding flat_film_grain y u v
  has_lists =
      record {
        count = three (λ (pl : ℕ). num_points_in (flat_film_grain fgd ++ rest) pl ≡ num_points fgd pl) refl refl refl;
        list =
            three (λ (pl : ℕ). points_in (flat_film_grain fgd ++ rest) pl ≡ points_of fgd pl)
            (plane 0 [] y (u ++ (v ++ behind)) (points_of fgd 0) refl refl (full 0 (omega arith)) refl)
            (plane 28 y u (v ++ behind) (points_of fgd 1) refl (full 0 (omega arith)) (full 1 (omega arith)) refl)
            (plane 56 (y ++ u) v behind (points_of fgd 2) (sym (append_assoc y u (v ++ behind))) (length-append y u ∙ omega (arith, full 0 (omega arith), full 1 (omega arith))) (full 2 (omega arith)) refl);
      }
