-- The arguments of parse_tile_info and what follows from them: document 01, "Domain" and parse_tile_info.
use Rattle.std.specs.Prelude.{Bool, false, ◌&&◌, ◌||◌, ℕ, zero, suc, ◌+◌, ◌-◌, ◌*◌, ◌/◌, ◌^◌, min, max, leb, ltb, eqb, ℤ, pos, negsuc, replicate}
use Rattle.getbits.specs.Chain.{pick}
use Rattle.tile_layout.specs.declared.TileArgs.{TileArgs}
use Rattle.tile_layout.specs.declared.TileInfo.{TileInfo}

-- the zero record
abbrev pub no_tile_info : TileInfo
no_tile_info =
    record {
      uniform = false;
      min_log2_cols = 0;
      max_log2_cols = 0;
      log2_cols = 0;
      cols = 0;
      min_log2_rows = 0;
      max_log2_rows = 0;
      log2_rows = 0;
      rows = 0;
      col_start_sb = replicate 65 0;
      row_start_sb = replicate 65 0;
    }

-- a number below 0 counts as 0, which is outside the domain as well
abbrev pub unsigned : ℤ → ℕ
unsigned (pos n) = n
unsigned (negsuc n) = 0

-- the arguments of a call
abbrev pub args_of : ℤ → ℕ → ℕ → ℤ → ℤ → ℕ → ℕ → TileArgs
args_of sbmul sb128 seq-sb128 w h level tier =
    record {
      multiplier = unsigned sbmul;
      frame_code = sb128;
      seq_code = seq-sb128;
      width = unsigned w;
      height = unsigned h;
      level = level;
      tier = tier;
    }

-- frame width and height are 1 to 65,536
abbrev pub is_size : ℕ → Bool
is_size n = leb 1 n && leb n 65536

-- the pairs (frame code, sequence code): (0,0), (1,1), (2,2) with multiplier 1, and (1,2) with multiplier 2
abbrev pub is_pair : ℕ → ℕ → ℕ → Bool
is_pair f q m = (leb f 2 && eqb f q && eqb m 1) || (eqb f 1 && eqb q 2 && eqb m 2)

-- the domain; level is 0 to 31, and tier 0 or 1
unfoldable pub in_domain : TileArgs → Bool
in_domain a =
    is_size a.width && is_size a.height
    && leb a.level 31
    && leb a.tier 1
    && is_pair a.frame_code a.seq_code a.multiplier

-- the size of a superblock: code 0, 1, 2 means 64, 128, 256 samples
abbrev pub size : ℕ → ℕ
size code = 64 * 2 ^ code

-- n samples divided by the size, rounded up
unfoldable pub superblocks : ℕ → ℕ → ℕ
superblocks n code = (n + (size code - 1)) / size code

-- the frame's width and height in superblocks
abbrev pub sbw : TileArgs → ℕ
sbw a = superblocks a.width a.frame_code

abbrev pub sbh : TileArgs → ℕ
sbh a = superblocks a.height a.frame_code

-- a = 1 if level is 14 or more
abbrev pub adj_a : TileArgs → ℕ
adj_a a = pick (leb 14 a.level) 1 0

-- b = 1 if level is 18 or more
abbrev pub adj_b : TileArgs → ℕ
adj_b a = pick (leb 18 a.level) 1 0

-- c = 1 if level is 14 or more and tier is 1
abbrev pub adj_c : TileArgs → ℕ
adj_c a = pick (leb 14 a.level && eqb a.tier 1) 1 0

-- the level's width limit, in superblocks
unfoldable pub width_limit : TileArgs → ℕ
width_limit a = 4096 * 2 ^ (adj_b a + adj_c a) / size a.frame_code

-- the level's area limit, in superblocks
unfoldable pub area_limit : TileArgs → ℕ
area_limit a = 9437184 * 2 ^ (adj_a a + adj_b a + adj_c a) / (size a.frame_code * size a.frame_code)

-- how often sz is doubled until it is at least tgt, at most `most` times
unfoldable pub doublings : ℕ → ℕ → ℕ → ℕ
doublings zero sz tgt = 0
doublings (suc most) sz tgt = pick (ltb sz tgt) (doublings most (sz * 2) tgt + 1) 0

-- tile_log2: the least k with sz * 2 ^ k at least tgt; tgt is at most 2 ^ 20
abbrev pub tile_log2 : ℕ → ℕ → ℕ
tile_log2 sz tgt = doublings 20 sz tgt

unfoldable pub min_log2_cols : TileArgs → ℕ
min_log2_cols a = tile_log2 (width_limit a) (sbw a)

-- of columns and of rows there are at most 64
unfoldable pub max_log2_cols : TileArgs → ℕ
max_log2_cols a = tile_log2 1 (min (sbw a) 64)

unfoldable pub max_log2_rows : TileArgs → ℕ
max_log2_rows a = tile_log2 1 (min (sbh a) 64)

-- the least tile logarithm
unfoldable pub min_log2_tiles : TileArgs → ℕ
min_log2_tiles a = max (tile_log2 (area_limit a) (sbw a * sbh a)) (min_log2_cols a)
