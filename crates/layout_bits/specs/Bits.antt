-- The row of bits of a tile layout: request #106. What it is read by: document 01, parse_tile_info and get_uniform.
use Rattle.std.specs.Prelude.{List, [], ◌∷◌, ◌++◌, ℕ, zero, suc, ◌+◌, ◌-◌, ◌/◌, ◌%◌, ◌^◌, min, ltb, leb, replicate}
use Rattle.getbits.specs.Chain.{pick}
use Rattle.codes.specs.Codes.{bit_length}
use Rattle.tile_layout.specs.declared.TileArgs.{TileArgs}
use Rattle.tile_layout.specs.declared.TileInfo.{TileInfo}
use Rattle.tile_layout.specs.Limits.{sbw, sbh, width_limit}
use Rattle.tile_layout.specs.Layout.{tabulate, widest, row_limit}
use Rattle.tile_layout.specs.Demand3.{col_size, row_size}

-- v in n bits, the most significant first
unfoldable pub bits_of : ℕ → ℕ → List ℕ
bits_of zero v = []
bits_of (suc n) v = bits_of n (v / 2) ++ (v % 2 ∷ [])

-- how many of max numbers have a shorter code: m = 2 ^ l - max, l being the bit length of max
abbrev pub shorter : ℕ → ℕ
shorter max = 2 ^ bit_length max - max

-- what get_uniform(max) reads v from: one of the first m numbers in l - 1 bits, a later one as v + m in l bits; max at most 1 has no bit
unfoldable pub uniform_code : ℕ → ℕ → List ℕ
uniform_code max v =
    pick (leb max 1) [] (pick (ltb v (shorter max)) (bits_of (bit_length max - 1) v) (bits_of (bit_length max) (v + shorter max)))

-- n ones, and a zero behind them unless there are `most`
unfoldable pub ones_code : ℕ → ℕ → List ℕ
ones_code most n = replicate n 1 ++ pick (ltb n most) (0 ∷ []) []

-- a logarithm: a one for each step above its least, and a zero unless it is its largest
abbrev pub log_code : ℕ → ℕ → ℕ → List ℕ
log_code least most log = ones_code (most - least) (log - least)

-- the logarithm of the columns, then that of the rows
unfoldable pub logs_code : TileInfo → List ℕ
logs_code t =
    log_code t.min_log2_cols t.max_log2_cols t.log2_cols
    ++ log_code t.min_log2_rows t.max_log2_rows t.log2_rows

-- sizes, each less 1 and below the smaller of what remains and the limit
unfoldable pub sizes_code : ℕ → ℕ → List ℕ → List ℕ
sizes_code remains limit [] = []
sizes_code remains limit (z ∷ zs) = uniform_code (min remains limit) (z - 1) ++ sizes_code (remains - z) limit zs

-- the sizes of the columns, then those of the rows
unfoldable pub sides_code : TileArgs → List ℕ → List ℕ → List ℕ
sides_code a widths heights = sizes_code (sbw a) (width_limit a) widths ++ sizes_code (sbh a) (row_limit a (widest widths)) heights

-- the sizes of a record's columns: each start less the one before it, up to the closing one
abbrev pub col_sizes : TileInfo → List ℕ
col_sizes t = tabulate (col_size t) 0 t.cols

-- and of its rows
abbrev pub row_sizes : TileInfo → List ℕ
row_sizes t = tabulate (row_size t) 0 t.rows

-- the flag, then the logarithms or the sizes
unfoldable pub layout_bits : TileArgs → TileInfo → List ℕ
layout_bits a t = pick t.uniform (1 ∷ logs_code t) (0 ∷ sides_code a (col_sizes t) (row_sizes t))
