-- What the programs frame, panel and over print of a whole layout (docs/PROGRAMS.md).
use Rattle.std.specs.Prelude.{List, [], ◌∷◌, ◌++◌, ℕ}
use Rattle.getbits.specs.Chain.{pick}
use Rattle.getbits.specs.declared.Place.{Place}
use Rattle.lent.specs.Lent.{position_of}
use Rattle.program.specs.Output.{accepted_text, starts_text}
use Rattle.text.specs.Text.{row, line}
use Rattle.tile_layout.specs.declared.TileInfo.{TileInfo}

-- the first line: ok, U or N, columns, rows, tiling bits used, reader error 0 or 1, the frame's superblock code
unfoldable pub whole_head_text : TileInfo → Place → ℕ → List ℕ
whole_head_text t next code =
    accepted_text t.uniform (t.cols ∷ t.rows ∷ position_of next ∷ pick next.error 1 0 ∷ code ∷ [])

-- the last line: the logarithms
unfoldable pub logs_text : TileInfo → List ℕ
logs_text t =
    line (row (t.min_log2_cols ∷ t.max_log2_cols ∷ t.log2_cols ∷ t.min_log2_rows ∷ t.max_log2_rows ∷ t.log2_rows ∷ []))

-- four lines: the first; then all 65 column starts; then the row starts; then the logarithms
unfoldable pub whole_layout_text : TileInfo → Place → ℕ → List ℕ
whole_layout_text t next code =
    whole_head_text t next code ++ (starts_text t.col_start_sb 65 ++ (starts_text t.row_start_sb 65 ++ logs_text t))
