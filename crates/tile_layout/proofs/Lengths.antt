-- A layout's arrays have 65 entries each, whatever numbers stand in them. Assumes nothing.
use mathlib.Core.Path.{◌≡◌}
use mathlib.Core.List.{List}
use mir.Val.{Val}
use lib.ListN.{length}
use denote.Laws.{Is}
use denote.Struct.Declared as declared
use Rattle.tile_layout.specs.declared.TileInfo.{TileInfo}
use Rattle.tile_layout.specs.contracts.TileInfo as layout

pub cols_length : (t : TileInfo) (vs : List Val) → Is (declared.row layout.the_type) t vs → length t.col_start_sb ≡ 65
cols_length t vs i = i.1.1.1.1.1.1.1.1.1.1.1.0.1.0.1

pub rows_length : (t : TileInfo) (vs : List Val) → Is (declared.row layout.the_type) t vs → length t.row_start_sb ≡ 65
rows_length t vs i = i.1.1.1.1.1.1.1.1.1.1.1.1.0.1.0.1
