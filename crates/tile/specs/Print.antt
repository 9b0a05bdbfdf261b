-- What the program tile prints: document 01, "The tile program".
use Rattle.std.specs.Prelude.{List, ℕ}
use Rattle.tile_request.specs.Print.{tile_read_text}
use Rattle.tile_request.specs.Request.{tile_request}

-- what is printed of an input
unfoldable pub tile_text : List ℕ → List ℕ
tile_text s = tile_read_text (tile_request s)
