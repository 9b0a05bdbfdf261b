-- The row of bits that is made of a layout.
use Rattle.std.specs.Prelude.{Bool, ◌&&◌, List, [], ℕ, leb}
use Rattle.getbits.specs.Chain.{pick}
use Rattle.tile_layout.specs.declared.TileArgs.{TileArgs}
use Rattle.tile_layout.specs.declared.TileInfo.{TileInfo}
use Rattle.tile_layout.specs.Limits.{in_domain}
use Rattle.layout_bits.specs.Bits.{layout_bits}

-- is one made? For arguments in the domain, at most 64 columns and at most 64 rows
abbrev pub has_row : TileArgs → TileInfo → Bool
has_row a t = in_domain a && leb t.cols 64 && leb t.rows 64

-- the layout's bits, or none
unfoldable pub row_of : TileArgs → TileInfo → List ℕ
row_of a t = pick (has_row a t) (layout_bits a t) []
