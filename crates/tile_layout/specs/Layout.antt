-- What parse_tile_info reads: document 01, parse_tile_info.
use Rattle.std.specs.Prelude.{true, false, List, [], ◌∷◌, ◌++◌, ℕ, zero, suc, ◌+◌, ◌-◌, ◌*◌, ◌/◌, ◌%◌, ◌^◌, min, max, ltb, eqb, length, replicate}
use Rattle.answers.specs.declared.Answer.TheVariants.{Accepted, InvalidTileInfo, WrongArguments}
use Rattle.getbits.specs.Bits.{settled, get_flag}
use Rattle.getbits.specs.Chain.{pick, then}
use Rattle.getbits.specs.declared.Read.{Read}
use Rattle.getbits.specs.declared.Place.{Place}
use Rattle.codes.specs.Codes.{plus, run_of, get_uniform}
use Rattle.tile_layout.specs.declared.TileArgs.{TileArgs}
use Rattle.tile_layout.specs.declared.TileInfo.{TileInfo}
use Rattle.tile_layout.specs.declared.TileRead.{TileRead}
use Rattle.tile_layout.specs.Limits.{in_domain, size, superblocks, sbw, sbh, width_limit}
use Rattle.tile_layout.specs.Limits.{tile_log2, min_log2_cols, max_log2_cols, max_log2_rows, min_log2_tiles}

-- the array after: the starts and the closing one, and behind them zeros
abbrev pub padded : List ℕ → List ℕ
padded edges = edges ++ replicate (65 - length edges) 0

-- f i, f (i + 1), .. : n of them
unfoldable pub tabulate : (ℕ → ℕ) → ℕ → ℕ → List ℕ
tabulate f i zero = []
tabulate f i (suc n) = f i ∷ tabulate f (suc i) n

-- UNIFORM: along n samples, counted in the sequence's superblocks.
-- the full count F = max(1, floor((n + 7) / Q)): a last superblock that lacks 8 samples or more isn't counted
unfoldable pub full_count : TileArgs → ℕ → ℕ
full_count a n = max 1 ((n + 7) / size a.seq_code)

-- the total T = ceil(n / Q)
abbrev pub total_count : TileArgs → ℕ → ℕ
total_count a n = superblocks n a.seq_code

-- base = floor(F / 2^log)
unfoldable pub base : ℕ → ℕ → ℕ
base full log = full / 2 ^ log

-- when base is 0 there are T columns of one, else 2^log columns
unfoldable pub count : ℕ → ℕ → ℕ → ℕ
count full total log = pick (eqb (base full log) 0) total (2 ^ log)

-- the first F mod 2^log columns are one larger; when base is 0, all T
unfoldable pub larger : ℕ → ℕ → ℕ → ℕ
larger full total log = pick (eqb (base full log) 0) total (full % 2 ^ log)

-- where column i starts
unfoldable pub start_at : ℕ → ℕ → ℕ → ℕ → ℕ
start_at full total log i = base full log * i + min i (larger full total log)

-- the columns (rows) along n samples: how many, and the starts, in the frame's superblocks, with the closing one
abbrev pub uniform_count : TileArgs → ℕ → ℕ → ℕ
uniform_count a n log = count (full_count a n) (total_count a n) log

abbrev pub uniform_edges : TileArgs → ℕ → ℕ → List ℕ
uniform_edges a n log =
    tabulate (λ i. a.multiplier * start_at (full_count a n) (total_count a n) log i) 0 (uniform_count a n log)
    ++ (superblocks n a.frame_code ∷ [])

-- each one bit raises the logarithm until its maximum
unfoldable pub read_log2 : List ℕ → Place → ℕ → ℕ → Read ℕ
read_log2 s p least most = plus least (run_of 1 (most - least) s p)

unfoldable pub uniform_info : TileArgs → ℕ → ℕ → TileInfo
uniform_info a log-cols log-rows =
    record {
      uniform = true;
      min_log2_cols = min_log2_cols a;
      max_log2_cols = max_log2_cols a;
      log2_cols = log-cols;
      cols = uniform_count a a.width log-cols;
      min_log2_rows = min_log2_tiles a - log-cols;
      max_log2_rows = max_log2_rows a;
      log2_rows = log-rows;
      rows = uniform_count a a.height log-rows;
      col_start_sb = padded (uniform_edges a a.width log-cols);
      row_start_sb = padded (uniform_edges a a.height log-rows);
    }

-- the columns' logarithm, then the rows', whose least is max(0, least tile logarithm - column logarithm)
unfoldable pub uniform_layout : List ℕ → Place → TileArgs → TileRead
uniform_layout s p a =
    then (read_log2 s p (min_log2_cols a) (max_log2_cols a)) λ c.
    then (read_log2 s c.next (min_log2_tiles a - c.value) (max_log2_rows a)) λ r.
    record { answer = Accepted; info = uniform_info a c.value r.value; next = r.next }

-- NON-UNIFORM: sizes, and the place after them
pub record Sizes : Type 0 where
  pub sizes : List ℕ
  pub next : Place

-- each size is get_uniform(max) + 1, max being the smaller of what remains and the limit,
-- until nothing remains or there are `most` sizes
unfoldable pub read_sizes : ℕ → List ℕ → Place → ℕ → ℕ → Sizes
read_sizes zero s p remains limit = record { sizes = []; next = p }
read_sizes (suc most) s p zero limit = record { sizes = []; next = p }
read_sizes (suc most) s p (suc k) limit =
    then (get_uniform s p (min (suc k) limit)) λ g.
    then (read_sizes most s g.next (suc k - (g.value + 1)) limit) λ rest.
    record { sizes = (g.value + 1) ∷ rest.sizes; next = rest.next }

unfoldable pub sum : List ℕ → ℕ
sum [] = 0
sum (x ∷ xs) = x + sum xs

unfoldable pub widest : List ℕ → ℕ
widest [] = 0
widest (x ∷ xs) = max x (widest xs)

-- the starts of tiles of these sizes, the first at x
unfoldable pub starts_from : ℕ → List ℕ → List ℕ
starts_from x [] = []
starts_from x (z ∷ zs) = x ∷ starts_from (x + z) zs

-- the starts and the closing one
abbrev pub non_uniform_edges : List ℕ → ℕ → List ℕ
non_uniform_edges zs closing = starts_from 0 zs ++ (closing ∷ [])

-- A = sbw · sbh, shifted right by the least tile logarithm + 1 if that logarithm is not 0
unfoldable pub row_area : TileArgs → ℕ
row_area a = pick (eqb (min_log2_tiles a) 0) (sbw a * sbh a) (sbw a * sbh a / 2 ^ (min_log2_tiles a + 1))

-- the row limit is max(1, floor(A / widest))
unfoldable pub row_limit : TileArgs → ℕ → ℕ
row_limit a w = max 1 (row_area a / w)

-- the sizes of the columns, from behind the flag
unfoldable pub read_cols : List ℕ → Place → TileArgs → Sizes
read_cols s p a = read_sizes 64 s p (sbw a) (width_limit a)

-- and of the rows, behind the columns c
unfoldable pub read_rows : List ℕ → Sizes → TileArgs → Sizes
read_rows s c a = read_sizes 64 s c.next (sbh a) (row_limit a (widest c.sizes))

-- of the record given min_log2_rows stays
unfoldable pub non_uniform_info : TileArgs → TileInfo → List ℕ → List ℕ → TileInfo
non_uniform_info a old widths heights =
    record {
      uniform = false;
      min_log2_cols = min_log2_cols a;
      max_log2_cols = max_log2_cols a;
      log2_cols = tile_log2 1 (length widths);
      cols = length widths;
      min_log2_rows = old.min_log2_rows;
      max_log2_rows = max_log2_rows a;
      log2_rows = tile_log2 1 (length heights);
      rows = length heights;
      col_start_sb = padded (non_uniform_edges widths (sbw a));
      row_start_sb = padded (non_uniform_edges heights (sbh a));
    }

-- 2, and the record given
abbrev pub invalid_tile_info : TileInfo → Place → TileRead
invalid_tile_info old next = record { answer = InvalidTileInfo; info = old; next = next }

-- do 64 columns, then 64 rows, suffice? No: 2
unfoldable pub non_uniform_layout : List ℕ → Place → TileInfo → TileArgs → TileRead
non_uniform_layout s p old a =
    then (read_cols s p a) λ c.
    pick (ltb (sum c.sizes) (sbw a)) (invalid_tile_info old c.next) (
    then (read_rows s c a) λ r.
    pick (ltb (sum r.sizes) (sbh a)) (invalid_tile_info old r.next)
    (record { answer = Accepted; info = non_uniform_info a old c.sizes r.sizes; next = r.next }))

-- parse_tile_info: are all arguments in the domain? No: 4, no bit used. The uniform flag, then the layout
unfoldable pub parse_tile_info : List ℕ → Place → TileInfo → TileArgs → TileRead
parse_tile_info s p old a =
    pick (in_domain a)
    (then (get_flag s p) λ f. pick f.value (uniform_layout s f.next a) (non_uniform_layout s f.next old a))
    (record { answer = WrongArguments; info = old; next = settled s p })
