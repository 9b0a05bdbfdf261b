-- What the private functions answer. No public contract cites it.
use Rattle.std.specs.Prelude.{◌≡◌, true, false, List, ◌++◌, ℕ, ◌≤◌, ltb, length, drop}
use Rattle.answers.specs.Numbers.{is_refusal}
use Rattle.tile_layout.specs.declared.TileArgs.{TileArgs}
use Rattle.tile_layout.specs.declared.TileRead.{TileRead}
use Rattle.tile_layout.specs.Limits.{sbw, sbh, width_limit, tile_log2, min_log2_cols, max_log2_cols, max_log2_rows, min_log2_tiles}
use Rattle.tile_layout.specs.Layout as layout
use Rattle.tile_layout.specs.Layout.{sum, widest, starts_from, non_uniform_edges, padded}
use Rattle.flat.specs.Layout.{Buffers, put_layout}
use Rattle.superblocks.specs.declared.Pair.{Pair}
use Rattle.tile_info.specs.declared.TileOutcome.{TileOutcome}
use Rattle.tile_info.specs.declared.limits.FrameLimits.{FrameLimits}
use Rattle.tile_info.specs.declared.nonuniform.Sizes.{Sizes}
use Rattle.tile_info.specs.declared.nonuniform.Tiles.{Tiles}

-- the pair of the arguments' codes
pub record Coded (a : TileArgs) (p : Pair) : Type 0 where
  pub of_frame : p.frame_code ≡ a.frame_code
  pub of_seq : p.seq_code ≡ a.seq_code

-- k has the numbers of the arguments a
pub record Known (a : TileArgs) (k : FrameLimits) : Type 0 where
  pub coded : Coded a k.pair
  pub across : k.sbw.0 ≡ sbw a
  pub down : k.sbh.0 ≡ sbh a
  pub wide : k.max_tile_width_sb.0 ≡ width_limit a
  pub min_cols : k.min_log2_cols ≡ min_log2_cols a
  pub max_cols : k.max_log2_cols ≡ max_log2_cols a
  pub max_rows : k.max_log2_rows ≡ max_log2_rows a
  pub min_tiles : k.min_log2_tiles ≡ min_log2_tiles a

-- the sizes z, with their starts in `starts`, before the numbers `rest`
pub record SizesOf (z : layout.Sizes) (r : Sizes) (rest starts : List ℕ) : Type 0 where
  pub counted : r.tiles ≡ length z.sizes
  pub summed : r.sum.0 ≡ sum z.sizes
  pub wides : r.widest.0 ≡ widest z.sizes
  pub stands : r.next ≡ z.next
  pub stored : starts ≡ padded (starts_from 0 z.sizes) ++ rest
  pub few : r.tiles ≤ 64

-- the sizes z, closed at `total`
pub record TilesOf (z : layout.Sizes) (total : ℕ) (r : Tiles) (rest starts : List ℕ) : Type 0 where
  pub counted : r.tiles ≡ length z.sizes
  pub log : r.log2 ≡ tile_log2 1 (length z.sizes)
  pub left : r.short ≡ ltb (sum z.sizes) total
  pub wides : r.widest.0 ≡ widest z.sizes
  pub stands : r.next ≡ z.next
  pub stored : starts ≡ padded (non_uniform_edges z.sizes total) ++ rest
  pub few : r.tiles ≤ 64

-- the layout z into buffers; after a refusal the nine bytes are what they were, and of the starts what stands behind the first 65
pub record SizedInto (z : TileRead) (before : Buffers) (r : TileOutcome) (after : Buffers) : Type 0 where
  pub answers : r ≡ record { answer = z.answer; next = z.next }
  pub accepted : is_refusal z.answer ≡ false → after ≡ put_layout z.info before
  pub same_bytes : is_refusal z.answer ≡ true → after.bytes ≡ before.bytes
  pub same_cols : drop 65 after.col_starts ≡ drop 65 before.col_starts
  pub same_rows : drop 65 after.row_starts ≡ drop 65 before.row_starts
