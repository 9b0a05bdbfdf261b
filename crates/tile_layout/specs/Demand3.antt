-- DEMAND 3 of a layout that is read fresh, whatever the bytes s, the place p and the record given.
use Rattle.std.specs.Prelude.{◌≡◌, ◌⊎◌, true, false, List, ℕ, ◌+◌, ◌-◌, ◌*◌, ◌≤◌, ◌<◌, get_or}
use Rattle.answers.specs.Numbers.{number_of, is_refusal}
use Rattle.getbits.specs.Bits.{get_bit}
use Rattle.getbits.specs.declared.Place.{Place}
use Rattle.tile_layout.specs.declared.TileArgs.{TileArgs}
use Rattle.tile_layout.specs.declared.TileInfo.{TileInfo}
use Rattle.tile_layout.specs.declared.TileRead.{TileRead}
use Rattle.tile_layout.specs.Limits.{sbw, sbh, width_limit, area_limit}
use Rattle.tile_layout.specs.Layout.{Sizes, sum, tabulate, read_cols, read_rows}

-- it is uniform if its uniform flag reads as 1; at the end of the data the flag reads as 0
abbrev pub Uniform : List ℕ → Place → Type 0
Uniform s p = (get_bit s p).value ≡ 1

abbrev pub NonUniform : List ℕ → Place → Type 0
NonUniform s p = (get_bit s p).value ≡ 0

-- the sizes that the non-uniform rule reads behind the flag
abbrev pub cols_read : List ℕ → Place → TileArgs → Sizes
cols_read s p a = read_cols s (get_bit s p).next a

abbrev pub rows_read : List ℕ → Place → TileArgs → Sizes
rows_read s p a = read_rows s (cols_read s p a) a

-- 64 columns leave superblocks over: the sizes read add up to less than sbw
abbrev pub ColsLeaveOver : List ℕ → Place → TileArgs → Type 0
ColsLeaveOver s p a = sum (cols_read s p a).sizes < sbw a

-- rows likewise
abbrev pub RowsLeaveOver : List ℕ → Place → TileArgs → Type 0
RowsLeaveOver s p a = sum (rows_read s p a).sizes < sbh a

-- 64 columns leave superblocks over or, if they don't, 64 rows do
abbrev pub LeaveOver : List ℕ → Place → TileArgs → Type 0
LeaveOver s p a = ColsLeaveOver s p a ⊎ ((ColsLeaveOver s p a → ⊥) × RowsLeaveOver s p a)

-- a column's size: the next start, or the closing one, less its own start
abbrev pub col_size : TileInfo → ℕ → ℕ
col_size t i = get_or t.col_start_sb (i + 1) 0 - get_or t.col_start_sb i 0

abbrev pub row_size : TileInfo → ℕ → ℕ
row_size t j = get_or t.row_start_sb (j + 1) 0 - get_or t.row_start_sb j 0

pub record AcceptedLayout (s : List ℕ) (p : Place) (a : TileArgs) (t : TileInfo) : Type 0 where
  -- an accepted one has 1 to 64 columns
  pub some_cols : 1 ≤ t.cols
  pub most_cols : t.cols ≤ 64
  -- and 1 to 64 rows
  pub some_rows : 1 ≤ t.rows
  pub most_rows : t.rows ≤ 64
  -- each gets at least one superblock
  pub col_not_empty : (i : ℕ) → i < t.cols → 1 ≤ col_size t i
  pub row_not_empty : (j : ℕ) → j < t.rows → 1 ≤ row_size t j
  -- no column gets more than the level's width limit
  pub width_limit_lem : (i : ℕ) → i < t.cols → col_size t i ≤ width_limit a
  -- the columns add up to the frame's width in superblocks
  pub cols_add_up : sum (tabulate (col_size t) 0 t.cols) ≡ sbw a
  -- and the rows to its height
  pub rows_add_up : sum (tabulate (row_size t) 0 t.rows) ≡ sbh a
  -- no tile of a non-uniform one covers more superblocks than the level's area limit
  pub area_limit_lem : NonUniform s p → (i j : ℕ) → i < t.cols → j < t.rows → col_size t i * row_size t j ≤ area_limit a
  -- in a uniform one no column is more than one superblock larger than another column,
  -- if frame and sequence superblocks have one size
  pub cols_even : Uniform s p → a.frame_code ≡ a.seq_code
      → (i k : ℕ) → i < t.cols → k < t.cols → col_size t i ≤ col_size t k + 1
  -- and no row than another row
  pub rows_even : Uniform s p → a.frame_code ≡ a.seq_code
      → (j k : ℕ) → j < t.rows → k < t.rows → row_size t j ≤ row_size t k + 1

pub record Demand3 (s : List ℕ) (p : Place) (a : TileArgs) (z : TileRead) : Type 0 where
  -- a uniform layout is never refused
  pub uniform_never_refused : Uniform s p → is_refusal z.answer ≡ false
  -- a non-uniform one is refused exactly when 64 columns leave superblocks over or, if they don't, 64 rows do, and then with 2
  pub refused_with_2 : NonUniform s p → LeaveOver s p a → number_of z.answer ≡ 2
  pub refused_only_then : NonUniform s p → is_refusal z.answer ≡ true → LeaveOver s p a
  pub accepted : is_refusal z.answer ≡ false → AcceptedLayout s p a z.info
