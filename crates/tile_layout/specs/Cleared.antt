-- What stands in a layout record behind its closing entries, and what a refusal hands back: request #107.
use Rattle.std.specs.Prelude.{◌≡◌, true, false, ℕ, ◌<◌, get_or}
use Rattle.answers.specs.Numbers.{is_refusal}
use Rattle.tile_layout.specs.declared.TileInfo.{TileInfo}
use Rattle.tile_layout.specs.declared.TileRead.{TileRead}

-- behind the closing entry of the columns' starts, and behind that of the rows', stand zeros
pub record Cleared (t : TileInfo) : Type 0 where
  pub past_cols : (i : ℕ) → t.cols < i → get_or t.col_start_sb i 0 ≡ 0
  pub past_rows : (j : ℕ) → t.rows < j → get_or t.row_start_sb j 0 ≡ 0

-- a reading over the record `old`: accepted, zeros stand behind the closing entries; refused, the record given comes back whole
pub record ReadOver (old : TileInfo) (z : TileRead) : Type 0 where
  pub cleared : is_refusal z.answer ≡ false → Cleared z.info
  pub kept : is_refusal z.answer ≡ true → z.info ≡ old
