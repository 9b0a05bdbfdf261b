-- A layout's record in bytes, as the programs write and over read it: requests #106 and #107.
use Rattle.std.specs.Prelude.{List, ℕ, ◌+◌, ◌*◌}
use Rattle.lent.specs.Lent.{is_set}
use Rattle.program.specs.Input.{byte_at, two_at}
use Rattle.tile_layout.specs.Layout.{tabulate}
use Rattle.tile_layout.specs.declared.TileInfo.{TileInfo}

-- 65 starts from byte i on, two bytes each
unfoldable pub starts_at : List ℕ → ℕ → List ℕ
starts_at s i = tabulate (λ k. two_at s (i + 2 * k)) 0 65

-- the first 269 bytes: uniform, where 0 is false and any other byte true, and eight numbers, a byte each; then the column starts and the row starts
unfoldable pub given_layout : List ℕ → TileInfo
given_layout s =
    record {
      uniform = is_set (byte_at s 0);
      min_log2_cols = byte_at s 1;
      max_log2_cols = byte_at s 2;
      log2_cols = byte_at s 3;
      cols = byte_at s 4;
      min_log2_rows = byte_at s 5;
      max_log2_rows = byte_at s 6;
      log2_rows = byte_at s 7;
      rows = byte_at s 8;
      col_start_sb = starts_at s 9;
      row_start_sb = starts_at s 139;
    }
