-- Where a picture's tiles are drawn. The longer side of the drawing has 1000 units.
use Rattle.std.specs.Prelude.{List, ℕ, ◌+◌, ◌-◌, ◌*◌, ◌/◌, ◌≤◌, ◌<◌, min, max, ltb, eqb, get_or, take, drop}
use Rattle.getbits.specs.Chain.{pick}
use Rattle.drawing.specs.declared.View.{View}
use Rattle.drawing.specs.declared.Span.{Span}

-- no side is drawn shorter than an eighth of the other: by what a sample along a side is multiplied for that, where the other side is b
unfoldable pub stretch : ℕ → ℕ → ℕ
stretch a b = pick (ltb (8 * b) a) (8 * b) (pick (ltb (8 * a) b) b 1)

-- a picture of w by h samples: what a sample is across and down, and the unit
unfoldable pub view_of : ℕ → ℕ → View
view_of w h =
    record { w = w; h = h; x = 1000 * stretch w h; y = 1000 * stretch h w; unit = max (w * stretch w h) (h * stretch h w) }

-- what holds of it
pub record Drawable (v : View) : Type 0 where
  pub width : v.w ≤ 65536
  pub height : v.h ≤ 65536
  pub across : v.x ≤ 65536000
  pub down : v.y ≤ 65536000
  pub unit : v.unit ≤ 4294967296

-- tile i along a side of `most` samples, by where it begins and how far it reaches. One without samples is drawn behind the side's end, 30 units
-- long, with a place for each tile before it
unfoldable pub span_of : ℕ → ℕ → ℕ → ℕ → ℕ → ℕ → Span
span_of scale unit most i begin reach =
    pick (eqb reach 0)
    (record { at = scale * most + 30 * unit * i; size = 30 * unit })
    (record { at = scale * begin; size = scale * reach })

-- what holds of it
pub record Drawn (s : Span) : Type 0 where
  pub at : s.at < 1000000000000000000
  pub size : s.size < 1000000000000000000

-- left, top, width and height of the tile in column i and row j, where those of all tiles stand row by row
abbrev pub rect_of : List ℕ → ℕ → ℕ → ℕ → List ℕ
rect_of xs cols i j = take 4 (drop (4 * (j * cols + i)) xs)

-- where the tile's column i and its row j are drawn
unfoldable pub column_of : View → ℕ → List ℕ → Span
column_of v i rect = span_of v.x v.unit v.w i (get_or rect 0 0) (get_or rect 2 0)

unfoldable pub row_of : View → ℕ → List ℕ → Span
row_of v j rect = span_of v.y v.unit v.h j (get_or rect 1 0) (get_or rect 3 0)

-- the middle of a span, at most n long
unfoldable pub middle_of : Span → ℕ → Span
middle_of s n = record { at = s.at + (s.size - min s.size n) / 2; size = min s.size n }

-- what follows a span, n long
unfoldable pub behind_of : Span → ℕ → Span
behind_of s n = record { at = s.at + s.size; size = n }
