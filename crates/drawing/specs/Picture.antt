-- The parts of a drawing, in SVG.
use Rattle.std.specs.Prelude.{Bool, ◌&&◌, List, [], ◌∷◌, ◌++◌, ℕ, ◌+◌, ◌*◌, ltb, leb, get_or}
use Rattle.getbits.specs.Chain.{pick}
use Rattle.rectangles.specs.Rectangles.{each}
use Rattle.text.specs.Text.{word}
use Rattle.drawing.specs.declared.View.{View}
use Rattle.drawing.specs.declared.Span.{Span}
use Rattle.drawing.specs.Template.{marked}
use Rattle.drawing.specs.View.{column_of, row_of, middle_of}

-- how wide the two lines of a label are, by a tile's size
unfoldable pub label_width : ℕ → ℕ → ℕ
label_width w h = pick (ltb w 100 && ltb h 100) 38 (pick (ltb w 1000 && ltb h 1000) 48 72)

-- a tile's number and its size in samples: in one line where there is little height, in a turned one where there is little width, else in two
unfoldable pub label_text : Span → Span → ℕ → ℕ → ℕ → List ℕ
label_text a d k w h =
    pick (leb (4 * d.size) a.size)
    (marked
    (word "<svg x='#' y='#' width='#' height='#' viewBox='0 0 96 12' fill='black' stroke='none'>"
    ++ word "<text x='48' y='9.5' font-size='10'>#: #x#</text></svg>\n")
    (a.at ∷ d.at ∷ a.size ∷ d.size ∷ k ∷ w ∷ h ∷ []))
    (pick (leb (3 * a.size) d.size)
    (marked
    (word "<svg x='#' y='#' width='#' height='#' viewBox='0 0 12 96' fill='black' stroke='none'>"
    ++ word "<text x='-48' y='9.5' font-size='10' transform='rotate(-90)'>#: #x#</text></svg>\n")
    (a.at ∷ d.at ∷ a.size ∷ d.size ∷ k ∷ w ∷ h ∷ []))
    (marked
    (word "<svg x='#' y='#' width='#' height='#' viewBox='0 0 # 28' fill='black' stroke='none'>"
    ++ word "<text x='50%' y='13' font-size='13'>#</text><text x='50%' y='25' font-size='10'>#x#</text></svg>\n")
    (a.at ∷ d.at ∷ a.size ∷ d.size ∷ label_width w h ∷ k ∷ w ∷ h ∷ [])))

-- the tile of a column i and a row j, the k-th of all: its edge, and a label in its middle
unfoldable pub tile_text : View → ℕ → ℕ → ℕ → List ℕ → List ℕ
tile_text v i j k rect =
    marked (word "<rect x='#' y='#' width='#' height='#'/>")
    ((column_of v i rect).at ∷ (row_of v j rect).at ∷ (column_of v i rect).size ∷ (row_of v j rect).size ∷ [])
    ++ label_text (middle_of (column_of v i rect) (160 * v.unit)) (middle_of (row_of v j rect) (160 * v.unit)) k (get_or rect 2 0) (get_or rect 3 0)

-- all tiles, row by row and in each row column by column; rect gives a tile's left, top, width and height
unfoldable pub tiles_text : View → ℕ → ℕ → (ℕ → ℕ → List ℕ) → List ℕ
tiles_text v cols rows rect = each rows λ j. each cols λ i. tile_text v i j (j * cols + i) (rect i j)

-- a line from a point on, so far across and so far down
abbrev pub line_text : ℕ → ℕ → ℕ → ℕ → List ℕ
line_text x y across down = marked (word "<path d='M# #h#v#'/>\n") (x ∷ y ∷ across ∷ down ∷ [])

-- does a line of the grid stand n samples into a side of `most`? No more than 64 superblocks are shown along a side
abbrev pub is_line : ℕ → ℕ → ℕ → Bool
is_line n side most = ltb n most && leb most (64 * side)

-- the lines behind superblock i, down and across
unfoldable pub lines_text : View → ℕ → ℕ → List ℕ
lines_text v side i =
    pick (is_line (side * (i + 1)) side v.w) (line_text (v.x * (side * (i + 1))) 0 0 (v.y * v.h)) []
    ++ pick (is_line (side * (i + 1)) side v.h) (line_text 0 (v.y * (side * (i + 1))) (v.x * v.w) 0) []

-- a column's start above it, turned where the column is narrow
unfoldable pub above_text : ℕ → Span → ℕ → List ℕ
above_text unit s start =
    pick (ltb s.size (68 * unit))
    (marked
    (word "<svg x='#' y='-#' width='#' height='#' viewBox='0 0 12 32' preserveAspectRatio='xMinYMax'>"
    ++ word "<text x='-30' y='10' font-size='12' transform='rotate(-90)'>#</text></svg>\n")
    (s.at ∷ 68 * unit ∷ s.size ∷ 60 * unit ∷ start ∷ []))
    (marked
    (word "<svg x='#' y='-#' width='#' height='#' viewBox='0 0 40 20' preserveAspectRatio='xMinYMax'>"
    ++ word "<text y='16' font-size='16'>#</text></svg>\n")
    (s.at ∷ 42 * unit ∷ s.size ∷ 34 * unit ∷ start ∷ []))

-- a row's start to its left
unfoldable pub left_text : ℕ → Span → ℕ → List ℕ
left_text unit s start =
    marked
    (word "<svg x='-#' y='#' width='#' height='#' viewBox='0 0 40 20' preserveAspectRatio='xMaxYMin'>"
    ++ word "<text x='40' y='15' font-size='16' text-anchor='end'>#</text></svg>\n")
    (78 * unit ∷ s.at ∷ 68 * unit ∷ s.size ∷ start ∷ [])
