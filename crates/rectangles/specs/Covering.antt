-- What holds of the tiles of a layout read fresh, cut at the width w and the height h that it was read for: request #105.
use Rattle.std.specs.Prelude.{true, List, [], ◌∷◌, ◌≡◌, ℕ, ◌+◌, ◌*◌, ◌≤◌, ◌<◌, get_or}
use Rattle.tile_layout.specs.Layout.{sum}
use Rattle.tile_layout.specs.declared.TileInfo.{TileInfo}
use Rattle.rectangles.specs.Rectangles.{has_rectangles, rectangle, each}

-- a rectangle's area: its width times its height
abbrev pub area : List ℕ → ℕ
area numbers = get_or numbers 2 0 * get_or numbers 3 0

-- the areas of all tiles, in the rectangles' order
unfoldable pub areas : TileInfo → ℕ → ℕ → ℕ → List ℕ
areas t code w h = each t.rows λ row. each t.cols λ col. area (rectangle t code w h col row) ∷ []

-- a rectangle has the sample that is x from the left and y from the top: not before its left and top edges, and before its right and bottom ones
abbrev pub Has : List ℕ → ℕ → ℕ → Type 0
Has numbers x y =
    (get_or numbers 0 0 ≤ x) × (x < get_or numbers 0 0 + get_or numbers 2 0)
    × (get_or numbers 1 0 ≤ y) × (y < get_or numbers 1 0 + get_or numbers 3 0)

-- such a layout's tiles cover the picture
pub record Covering (t : TileInfo) (code w h : ℕ) : Type 0 where
  -- it has rectangles
  pub described : has_rectangles t code w h ≡ true
  -- their areas add up to width times height
  pub whole : sum (areas t code w h) ≡ w * h
  -- no tile is empty
  pub filled : (col row : ℕ) → col < t.cols → row < t.rows → 1 ≤ area (rectangle t code w h col row)
  -- each sample of the picture lies in a tile
  pub held : (x y : ℕ) → x < w → y < h → (col : ℕ) × (row : ℕ) × (col < t.cols) × (row < t.rows) × Has (rectangle t code w h col row) x y
  -- and in no other
  pub once : (col row col' row' x y : ℕ) → col < t.cols → row < t.rows → col' < t.cols → row' < t.rows
      → Has (rectangle t code w h col row) x y → Has (rectangle t code w h col' row') x y → (col ≡ col') × (row ≡ row')
