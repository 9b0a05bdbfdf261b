-- The records that can be read: what parse_tile_info gives where it is accepted and no bit is missing.
use Rattle.std.specs.Prelude.{◌≡◌, List, ℕ, ◌+◌, ◌-◌, ◌≤◌, ◌<◌, length, get_or}
use Rattle.tile_layout.specs.declared.TileArgs.{TileArgs}
use Rattle.tile_layout.specs.declared.TileInfo.{TileInfo}
use Rattle.tile_layout.specs.Limits.{sbw, sbh, width_limit, min_log2_cols, max_log2_cols, max_log2_rows, min_log2_tiles}
use Rattle.tile_layout.specs.Layout.{sum, widest, row_limit, uniform_info, non_uniform_info}

-- a logarithm from its least to its largest; the least alone, where that is above the largest
pub record InLog (least most log : ℕ) : Type 0 where
  pub low : least ≤ log
  pub high : log ≤ least + (most - least)

-- sizes from 1 to the limit, at most `most` of them, that add up to the whole
pub record Fills (most whole limit : ℕ) (sizes : List ℕ) : Type 0 where
  pub few : length sizes ≤ most
  pub adds : sum sizes ≡ whole
  pub each : (k : ℕ) → k < length sizes → (1 ≤ get_or sizes k 0) × (get_or sizes k 0 ≤ limit)

-- over a record `old`: a uniform layout by two logarithms, a non-uniform one by its widths and heights
pub data Readable (old : TileInfo) (a : TileArgs) (t : TileInfo) : Type 0 where
  even : (c r : ℕ) → InLog (min_log2_cols a) (max_log2_cols a) c → InLog (min_log2_tiles a - c) (max_log2_rows a) r → t ≡ uniform_info a c r → Readable old a t
  sized : (w h : List ℕ) → Fills 64 (sbw a) (width_limit a) w → Fills 64 (sbh a) (row_limit a (widest w)) h → t ≡ non_uniform_info a old w h → Readable old a t
