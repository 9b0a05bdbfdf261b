-- The drawing asks only for the tiles that a layout has. Assumes nothing.
use mathlib.Core.List.{List, ◌++◌}
use mathlib.Core.Path.{◌≡◌, refl, ap, ◌∙◌}
use Prim.Native.Nat.{ℕ, ◌+◌, ◌-◌, ◌*◌, ◌≤◌, ◌<◌}
use native.Mathlib.Omega.{arith}
use lib.ListN.{get_or, take, drop}
use Rattle.rectangles.specs.Places.{place}
use Rattle.rectangles.specs.Rectangles.{rectangle, rectangles}
use Rattle.rectangles.proofs.Each.{each_same}
use Rattle.rectangles.proofs.Four.{front}
use Rattle.rectangles.proofs.Places.{places}
use Rattle.tile_layout.specs.declared.TileInfo.{TileInfo}
use Rattle.drawing.specs.declared.View.{View}
use Rattle.drawing.specs.Drawing.{layout_text, columns_text, rows_text, picture_text}
use Rattle.drawing.specs.Picture.{tile_text, tiles_text, above_text, left_text}
use Rattle.drawing.specs.View.{rect_of, column_of, row_of}

-- two ways to give the tiles, the same for each
pub same_picture : (title : List ℕ) (v : View) (side : ℕ) (t : TileInfo) (f g : ℕ → ℕ → List ℕ) → 1 ≤ t.cols → 1 ≤ t.rows
    → ((i j : ℕ) → i < t.cols → j < t.rows → f i j ≡ g i j) → picture_text title v side t f ≡ picture_text title v side t g
unfolding picture_text layout_text tiles_text columns_text rows_text
same_picture title v side t f g some_cols some_rows same =
    rw (
      same (t.cols - 1) 0 (omega arith) (omega arith),
      same 0 (t.rows - 1) (omega arith) (omega arith),
      each_same (λ j. _) (λ j. _) t.rows (λ j l. each_same (λ i. tile_text v i j (j * t.cols + i) (f i j)) (λ i. tile_text v i j (j * t.cols + i) (g i j)) t.cols (λ i k. ap (tile_text v i j (j * t.cols + i)) (same i j k l))),
      each_same (λ i. above_text v.unit (column_of v i (f i 0)) (get_or t.col_start_sb i 0)) (λ i. above_text v.unit (column_of v i (g i 0)) (get_or t.col_start_sb i 0)) t.cols (λ i k. ap (λ (r : List ℕ). above_text v.unit (column_of v i r) (get_or t.col_start_sb i 0)) (same i 0 k (omega arith))),
      each_same (λ j. left_text v.unit (row_of v j (f 0 j)) (get_or t.row_start_sb j 0)) (λ j. left_text v.unit (row_of v j (g 0 j)) (get_or t.row_start_sb j 0)) t.rows (λ j k. ap (λ (r : List ℕ). left_text v.unit (row_of v j r) (get_or t.row_start_sb j 0)) (same 0 j (omega arith) k)),
    )
    refl

-- the tiles among the numbers of all rectangles
pub rects_of : (t : TileInfo) (code w h : ℕ) (behind numbers : List ℕ) → numbers ≡ rectangles t code w h ++ behind
    → (i j : ℕ) → i < t.cols → j < t.rows → rect_of numbers t.cols i j ≡ rectangle t code w h i j
rects_of t code w h behind numbers e i j k l =
    let p = places t code w h in
    ap (λ (xs : List ℕ). take 4 (drop (4 * place t i j) xs)) e
    ∙ front (rectangles t code w h) behind (4 * place t i j) (omega (arith, p.long, p.within i j k l))
    ∙ p.stands i j k l
