-- A tile layout in lent buffers: nine bytes, and the starts of the columns and of the rows.
use Rattle.std.specs.Prelude.{ℕ, Bool, ◌&&◌, List, [], ◌∷◌, ◌++◌, leb, length, get_or, take, drop, replicate}
use Rattle.getbits.specs.Chain.{pick}
use Rattle.lent.specs.Lent.{is_set}
use Rattle.seq_fields.specs.Fields.{bit_of}
use Rattle.tile_layout.specs.Limits.{no_tile_info}
use Rattle.tile_layout.specs.declared.TileInfo.{TileInfo}

-- n numbers over the front of a buffer; a buffer that has fewer than n stays as it was
abbrev pub over_front : {A : Type 0} → ℕ → List A → List A → List A
over_front n xs out = pick (leb n (length out)) (xs ++ drop n out) out

-- the three buffers of a layout: its bytes, the starts of its columns and those of its rows
pub record Buffers : Type 0 where
  pub bytes : List ℕ
  pub col_starts : List ℕ
  pub row_starts : List ℕ

abbrev pub buffers : List ℕ → List ℕ → List ℕ → Buffers
buffers info cols rows = record { bytes = info; col_starts = cols; row_starts = rows }

-- has each of them room: nine bytes, 65 starts, 65 starts?
abbrev pub has_room : Buffers → Bool
has_room b = leb 9 (length b.bytes) && (leb 65 (length b.col_starts) && leb 65 (length b.row_starts))

-- the nine bytes: the flag and the eight numbers
abbrev pub layout_bytes : TileInfo → List ℕ
layout_bytes t =
    bit_of t.uniform
    ∷ t.min_log2_cols
    ∷ t.max_log2_cols
    ∷ t.log2_cols
    ∷ t.cols
    ∷ t.min_log2_rows
    ∷ t.max_log2_rows
    ∷ t.log2_rows
    ∷ t.rows
    ∷ []

-- a layout over the front of its buffers; where one lacks room all stay as they were
unfoldable pub put_layout : TileInfo → Buffers → Buffers
put_layout t b =
    pick (has_room b)
    (buffers (layout_bytes t ++ drop 9 b.bytes) (t.col_start_sb ++ drop 65 b.col_starts) (t.row_start_sb ++ drop 65 b.row_starts))
    b

-- the starts in a buffer; where it lacks room, zeros
abbrev pub starts_in : List ℕ → List ℕ
starts_in xs = pick (leb 65 (length xs)) (take 65 xs) (replicate 65 0)

-- the layout in its buffers; where one lacks room, the zero layout
unfoldable pub layout_in : Buffers → TileInfo
layout_in b =
    pick (has_room b)
    (record {
      uniform = is_set (get_or b.bytes 0 0);
      min_log2_cols = get_or b.bytes 1 0;
      max_log2_cols = get_or b.bytes 2 0;
      log2_cols = get_or b.bytes 3 0;
      cols = get_or b.bytes 4 0;
      min_log2_rows = get_or b.bytes 5 0;
      max_log2_rows = get_or b.bytes 6 0;
      log2_rows = get_or b.bytes 7 0;
      rows = get_or b.bytes 8 0;
      col_start_sb = take 65 b.col_starts;
      row_start_sb = take 65 b.row_starts;
    })
    no_tile_info
