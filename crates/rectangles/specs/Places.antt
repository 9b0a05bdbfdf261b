-- Each tile has its place among the rectangles.
use Rattle.std.specs.Prelude.{◌≡◌, ℕ, ◌+◌, ◌*◌, ◌<◌, length, take, drop}
use Rattle.tile_layout.specs.declared.TileInfo.{TileInfo}
use Rattle.rectangles.specs.Rectangles.{rectangle_numbers, rectangle, rectangles}

-- how many tiles stand before that of a column and a row
abbrev pub place : TileInfo → ℕ → ℕ → ℕ
place t col row = row * t.cols + col

-- what holds of the rectangles of every layout
pub record Places (t : TileInfo) (code w h : ℕ) : Type 0 where
  -- they are four numbers a tile
  pub long : length (rectangles t code w h) ≡ rectangle_numbers t
  -- at a tile's place stand its left, top, width and height
  pub stands : (col row : ℕ) → col < t.cols → row < t.rows → take 4 (drop (4 * place t col row) (rectangles t code w h)) ≡ rectangle t code w h col row
  -- each tile has one place, below the number of tiles, and no two have the same
  pub within : (col row : ℕ) → col < t.cols → row < t.rows → place t col row < t.cols * t.rows
  pub once : (col row col' row' : ℕ) → col < t.cols → row < t.rows → col' < t.cols → row' < t.rows
      → place t col row ≡ place t col' row' → (col ≡ col') × (row ≡ row')
  -- and each place is a tile's
  pub every : (n : ℕ) → n < t.cols * t.rows → (col : ℕ) × (row : ℕ) × (col < t.cols) × (row < t.rows) × (place t col row ≡ n)
