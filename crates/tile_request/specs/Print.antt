-- What is printed of a layout read: document 01, "The tile program".
use Rattle.std.specs.Prelude.{List, [], ◌∷◌, ◌++◌, ℕ, ◌+◌}
use Rattle.answers.specs.Numbers.{number_of, is_refusal}
use Rattle.getbits.specs.Chain.{pick}
use Rattle.getbits.specs.declared.Place.{Place}
use Rattle.lent.specs.Lent.{position_of}
use Rattle.program.specs.Output.{accepted_text, starts_text, refused_text}
use Rattle.tile_layout.specs.declared.TileInfo.{TileInfo}
use Rattle.tile_layout.specs.declared.TileRead.{TileRead}

-- the first line: ok, U or N, columns, rows, tiling bits used, reader error 0 or 1
unfoldable pub tile_head_text : TileInfo → Place → List ℕ
tile_head_text t next =
    accepted_text t.uniform (t.cols ∷ t.rows ∷ position_of next ∷ pick next.error 1 0 ∷ [])

-- accepted, three lines: the first; then all column starts with the closing one; then the rows'
unfoldable pub tile_layout_text : TileInfo → Place → List ℕ
tile_layout_text t next = tile_head_text t next ++ (starts_text t.col_start_sb (t.cols + 1) ++ starts_text t.row_start_sb (t.rows + 1))

-- what is printed of a reading
unfoldable pub tile_read_text : TileRead → List ℕ
tile_read_text r = pick (is_refusal r.answer) (refused_text (number_of r.answer)) (tile_layout_text r.info r.next)
