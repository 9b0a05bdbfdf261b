-- Each tile has its place among the rectangles. Assumes nothing.
use mathlib.Core.Logic.{⊎_elim}
use mathlib.Core.Path.{◌≡◌, refl, sym, ap, ◌∙◌}
use mathlib.Core.List.{List, ◌++◌}
use Prim.Native.Nat.{ℕ, ◌+◌, ◌*◌, ◌/◌, ◌%◌, ◌<◌}
use native.Mathlib.Nat.{zero-mul, mul_assoc, mul_comm, add-mul, mul-le-mul_right, mod-lt, div-add-mod', div-lt_iff_lt-mul, mul-add-div_right, div-eq_of_lt}
use native.Mathlib.Omega.{arith}
use lib.ListN.{length, get_or, take, drop, length-drop, length-append, get_or-append}
use lib.Seq.{ext_get_or, get_or-take, get_or-drop, length-take-le}
use Rattle.getbits.proofs.Places.{lt_or_le}
use Rattle.tile_layout.specs.declared.TileInfo.{TileInfo}
use Rattle.rectangles.specs.Rectangles.{rectangle_numbers, rectangle, each, rectangles}
use Rattle.rectangles.specs.Places.{place, Places}
use Rattle.rectangles.proofs.Each.{each_length, each_at, each_same, each_each}

module _ (t : TileInfo) (code w h : ℕ) where
  pub long : length (rectangles t code w h) ≡ rectangle_numbers t
  unfolding rectangles
  long = each_length _ (4 * t.cols) (λ _. each_length _ 4 (λ _. refl) t.cols) t.rows ∙ mul_assoc 4 t.cols t.rows

  module _ (col row : ℕ) (l : col < t.cols) (k : row < t.rows) where
    within : place t col row < t.cols * t.rows
    within = omega (arith, mul-le-mul_right {m = row + 1} {n = t.rows} t.cols (omega arith), add-mul row 1 t.cols, mul_comm t.cols t.rows)

    number : (j : ℕ) → j < 4 → get_or (rectangles t code w h) (4 * place t col row + j) 0 ≡ get_or (rectangle t code w h col row) j 0
    unfolding rectangles
    number j b =
        ap (λ (i : ℕ). get_or (rectangles t code w h) i 0) (omega (arith, mul_assoc 4 t.cols row, mul_comm t.cols row))
        ∙ each_at _ (4 * t.cols) (λ _. each_length _ 4 (λ _. refl) t.cols) t.rows row (4 * col + j) 0 k (omega arith)
        ∙ each_at _ 4 (λ _. refl) t.cols col j 0 l b

    stands : take 4 (drop (4 * place t col row) (rectangles t code w h)) ≡ rectangle t code w h col row
    stands =
        let there = drop (4 * place t col row) (rectangles t code w h) in
        let four : length (take 4 there) ≡ 4 = length-take-le 4 there (omega (arith, length-drop (4 * place t col row) (rectangles t code w h), long, within)) in
        ext_get_or 0 (take 4 there) (rectangle t code w h col row) four
        λ j m. let b : j < 4 = omega (arith, four) in get_or-take 4 there j 0 b ∙ get_or-drop (4 * place t col row) (rectangles t code w h) j 0 ∙ number j b

    -- and whatever stands behind them
    pub stands_in : (rest : List ℕ) → take 4 (drop (4 * place t col row) (rectangles t code w h ++ rest)) ≡ rectangle t code w h col row
    stands_in rest =
        let all = rectangles t code w h ++ rest in
        let there = drop (4 * place t col row) all in
        let four : length (take 4 there) ≡ 4 = length-take-le 4 there (omega (arith, length-drop (4 * place t col row) all, length-append (rectangles t code w h) rest, long, within)) in
        ext_get_or 0 (take 4 there) (rectangle t code w h col row) four
        λ j m.
        let b : j < 4 = omega (arith, four) in
        let e : 4 * place t col row + j < length (rectangles t code w h) = omega (arith, long, within) in
        get_or-take 4 there j 0 b ∙ get_or-drop (4 * place t col row) all j 0 ∙ get_or-append (rectangles t code w h) rest 0 (4 * place t col row + j) e ∙ number j b

  -- a tile's row and column, from its place
  row_of : (col row : ℕ) → col < t.cols → place t col row / t.cols ≡ row
  row_of col row l = mul-add-div_right (omega arith) row col ∙ omega (arith, div-eq_of_lt l)

  col_of : (col row : ℕ) → col < t.cols → place t col row % t.cols ≡ col
  col_of col row l = omega (arith, div-add-mod' (place t col row) t.cols, ap (λ (x : ℕ). x * t.cols) (row_of col row l))

  -- where there is a tile there are columns
  some_cols : (n : ℕ) → n < t.cols * t.rows → 0 < t.cols
  some_cols n l = ⊎_elim (λ k. k) (λ k. let e : t.cols ≡ 0 = omega arith in absurd (omega (arith, l, ap (λ (x : ℕ). x * t.rows) e, zero-mul t.rows))) (lt_or_le 0 t.cols)

  pub places : Places t code w h
  places =
      record {
        long = long;
        stands = λ col row l k. stands col row l k;
        within = λ col row l k. within col row l k;
        once = λ col row col' row' l k l' k' same. (
          sym (col_of col row l) ∙ ap (λ (x : ℕ). x % t.cols) same ∙ col_of col' row' l',
          sym (row_of col row l) ∙ ap (λ (x : ℕ). x / t.cols) same ∙ row_of col' row' l',
        );
        every = λ n l. let some = some_cols n l in (n % t.cols, n / t.cols, mod-lt n some, (div-lt_iff_lt-mul some).1 (rw (mul_comm t.rows t.cols) l), div-add-mod' n t.cols);
      }

  -- what is made of each tile in its place is what is made of each column of each row
  pub in_places : {A : Type 0} (f : List ℕ → List A)
      → each (t.cols * t.rows) (λ n. f (take 4 (drop (4 * n) (rectangles t code w h)))) ≡ each t.rows (λ row. each t.cols (λ col. f (rectangle t code w h col row)))
  in_places f =
      let at : ℕ → List _ = λ n. f (take 4 (drop (4 * n) (rectangles t code w h))) in
      ap (λ (n : ℕ). each n at) (mul_comm t.cols t.rows)
      ∙ each_each at t.rows t.cols
      ∙ each_same _ _ t.rows (λ row k. each_same _ _ t.cols (λ col l. ap f (stands col row l k)))
