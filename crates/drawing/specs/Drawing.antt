-- The drawing of a layout: what the program draw prints.
use Rattle.std.specs.Prelude.{List, [], ◌∷◌, ◌++◌, ℕ, ◌+◌, ◌-◌, ◌*◌, max, eqb, get_or}
use Rattle.getbits.specs.Chain.{pick}
use Rattle.rectangles.specs.Rectangles.{has_rectangles, rectangle, each}
use Rattle.text.specs.Text.{word}
use Rattle.tile_layout.specs.Limits.{size}
use Rattle.tile_layout.specs.declared.TileInfo.{TileInfo}
use Rattle.drawing.specs.declared.View.{View}
use Rattle.drawing.specs.declared.Span.{Span}
use Rattle.drawing.specs.Template.{marked}
use Rattle.drawing.specs.View.{view_of, column_of, row_of, behind_of}
use Rattle.drawing.specs.Picture.{tiles_text, lines_text, above_text, left_text}
use Rattle.drawing.specs.Refusal.{refusal_text}

-- the sheet, with room for the title and the starts, and for tiles behind the picture's edge: the last column ends at `right`, the last row at
-- `bottom`. The title stands twice, for those who see and for those who have it read
unfoldable pub head_text : View → ℕ → ℕ → List ℕ → List ℕ
head_text v right bottom title =
    marked (word "<svg xmlns='http://www.w3.org/2000/svg' viewBox='-# -# # #' font-family='sans-serif'>\n<title>")
    (80 * v.unit ∷ 160 * v.unit ∷ (max (1000 * v.unit) right + 160 * v.unit) ∷ (max (v.y * v.h) bottom + 240 * v.unit) ∷ [])
    ++ title
    ++ marked
    (word "</title>\n<rect x='-#' y='-#' width='100%' height='100%' fill='white'/>\n"
    ++ word "<svg x='-#' y='-#' width='#' height='#' viewBox='0 0 1160 90'><text x='20' y='36' font-size='26'>")
    (80 * v.unit ∷ 160 * v.unit ∷ 80 * v.unit ∷ 160 * v.unit ∷ 1160 * v.unit ∷ 90 * v.unit ∷ [])
    ++ title

-- what the numbers in the drawing are
unfoldable pub note_text : View → ℕ → ℕ → ℕ → List ℕ
note_text v cols rows side =
    marked
    (word "</text>\n<text x='20' y='70' font-size='20' fill='dimgray'>"
    ++ word "# x # tiles, each with its number, width x height in samples; starts in superblocks of #")
    (cols ∷ rows ∷ side ∷ [])
    ++ pick (eqb v.x v.y) (word "</text></svg>\n") (word "; not to scale</text></svg>\n")

-- the superblocks, as a light grid
unfoldable pub grid_text : View → ℕ → List ℕ
grid_text v side =
    marked (word "<g fill='none' stroke='lightgray' stroke-width='#'>\n") (v.unit ∷ [])
    ++ (each 63 λ i. lines_text v side i)
    ++ word "</g>\n"

-- the tiles, and the picture's edge over them
unfoldable pub layout_text : View → ℕ → ℕ → (ℕ → ℕ → List ℕ) → List ℕ
layout_text v cols rows rect =
    marked (word "<g fill='none' stroke='black' stroke-width='#' text-anchor='middle'>\n") (v.unit ∷ [])
    ++ tiles_text v cols rows rect
    ++ marked (word "<rect width='#' height='#' stroke-width='#'/>\n</g>\n") (v.x * v.w ∷ v.y * v.h ∷ 3 * v.unit ∷ [])

-- a column is where its tile in the first row is, and a row where its tile in the first column is; the closing starts stand behind the last ones
abbrev pub columns_end : View → ℕ → (ℕ → ℕ → List ℕ) → Span
columns_end v cols rect = behind_of (column_of v (cols - 1) (rect (cols - 1) 0)) (68 * v.unit)

abbrev pub rows_end : View → ℕ → (ℕ → ℕ → List ℕ) → Span
rows_end v rows rect = behind_of (row_of v (rows - 1) (rect 0 (rows - 1))) (68 * v.unit)

-- the columns' starts, and the closing one
unfoldable pub columns_text : View → List ℕ → ℕ → Span → (ℕ → ℕ → List ℕ) → List ℕ
columns_text v starts cols end rect =
    (each cols λ i. above_text v.unit (column_of v i (rect i 0)) (get_or starts i 0)) ++ above_text v.unit end (get_or starts cols 0)

-- the rows'
unfoldable pub rows_text : View → List ℕ → ℕ → Span → (ℕ → ℕ → List ℕ) → List ℕ
rows_text v starts rows end rect =
    (each rows λ j. left_text v.unit (row_of v j (rect 0 j)) (get_or starts j 0)) ++ left_text v.unit end (get_or starts rows 0)

-- the whole drawing of a layout, whose tiles are given by rect
unfoldable pub picture_text : List ℕ → View → ℕ → TileInfo → (ℕ → ℕ → List ℕ) → List ℕ
picture_text title v side t rect =
    head_text v (columns_end v t.cols rect).at (rows_end v t.rows rect).at title
    ++ note_text v t.cols t.rows side
    ++ grid_text v side
    ++ layout_text v t.cols t.rows rect
    ++ columns_text v t.col_start_sb t.cols (columns_end v t.cols rect) rect
    ++ rows_text v t.row_start_sb t.rows (rows_end v t.rows rect) rect
    ++ word "</svg>\n"

-- under a title, the tiles of a layout in a frame of w by h samples, cut at its edge; a layout without rectangles is 4
unfoldable pub drawing_text : List ℕ → TileInfo → ℕ → ℕ → ℕ → List ℕ
drawing_text title t code w h =
    pick (has_rectangles t code w h) (picture_text title (view_of w h) (size code) t (rectangle t code w h)) (refusal_text title 4)
