-- What is printed of layouts read over a record of old numbers, and of inputs that are refused, computed. Assumes nothing.
use lib.Count.{count_leading_zeros}
use Prim.Native.Nat.{ℕ}
use Prim.Native.String.{String}
use mathlib.Core.List.{List, [], ◌∷◌, ◌++◌}
use mathlib.Core.Path.{◌≡◌, refl}
use lib.ListN.{replicate}
use Rattle.getbits.specs.Chain.{then, turns}
use Rattle.getbits.specs.Bits.{bits_at, position, read_bits, get_bit, get_bits, get_flag}
use Rattle.codes.specs.Codes.{run_of, get_uniform}
use Rattle.tile_layout.specs.Limits.{in_domain, superblocks, width_limit, area_limit, doublings, min_log2_cols, max_log2_cols, max_log2_rows, min_log2_tiles}
use Rattle.tile_layout.specs.Layout.{tabulate, full_count, base, count, larger, start_at, read_log2, uniform_info, uniform_layout, read_sizes, sum, widest, starts_from}
use Rattle.tile_layout.specs.Layout.{row_area, row_limit, read_cols, read_rows, non_uniform_info, non_uniform_layout, parse_tile_info}
use Rattle.superblocks.specs.Counts.{multiplier_of}
use Rattle.text.specs.Text.{word, decimal, decimal_in, nexts, row, line}
use Rattle.program.specs.Output.{accepted_text, refused_text}
use Rattle.tile_request.specs.Layout.{starts_at, given_layout}
use Rattle.tile_request.specs.Request.{request_over}
use Rattle.tile_request.specs.Whole.{whole_head_text, logs_text, whole_layout_text}
use Rattle.over.specs.Print.{over_text}

-- a record whose 269 bytes are all 7, so that each start is 1799, and tile's input behind it
sevens : List ℕ → List ℕ
sevens s = replicate 269 7 ++ s

-- a line: some starts with the closing one, and n zeros behind it
cleared : String → ℕ → List ℕ
cleared starts n = line (word starts ++ nexts (replicate n 0))

-- 64 by 64: one uniform tile. 600 by 128, codes 1 and 2: two uniform columns.
-- 256 by 128: three columns that aren't uniform, and of the old numbers min_log2_rows alone is left
printed :
    (over_text (sevens (0x3F ∷ 0 ∷ 0x3F ∷ 0 ∷ 0 ∷ 0 ∷ 0 ∷ 0 ∷ 0x80 ∷ [])) ≡ word "ok U 1 1 1 0 0\n" ++ cleared "0 1" 63 ++ cleared "0 1" 63 ++ word "0 0 0 0 0 0\n")
    × (over_text (sevens (0x57 ∷ 0x02 ∷ 0x7F ∷ 0 ∷ 1 ∷ 2 ∷ 0 ∷ 0 ∷ 0xC0 ∷ [])) ≡ word "ok U 2 1 3 0 1\n" ++ cleared "0 2 5" 62 ++ cleared "0 1" 63 ++ word "0 3 1 0 0 0\n")
    × (over_text (sevens (0xFF ∷ 0 ∷ 0x7F ∷ 0 ∷ 0 ∷ 0 ∷ 0 ∷ 0 ∷ 0x28 ∷ [])) ≡ word "ok N 3 1 5 0 0\n" ++ cleared "0 2 3 4" 61 ++ cleared "0 2" 63 ++ word "0 2 2 7 1 0\n")
unfolding count_leading_zeros then turns bits_at position read_bits get_bit get_bits get_flag run_of get_uniform
    in_domain superblocks width_limit area_limit doublings min_log2_cols max_log2_cols max_log2_rows min_log2_tiles
    tabulate full_count base count larger start_at read_log2 uniform_info uniform_layout read_sizes sum widest starts_from
    row_area row_limit read_cols read_rows non_uniform_info non_uniform_layout parse_tile_info multiplier_of
    word decimal decimal_in nexts row starts_at given_layout request_over whole_head_text logs_text whole_layout_text accepted_text over_text sevens cleared
printed = (refl, refl, refl)

-- 4160 by 64 without data, more than 64 columns of one superblock cover; a byte less; and no byte at all
refused :
    (over_text (sevens (0x3F ∷ 0x10 ∷ 0x3F ∷ 0 ∷ 0 ∷ 0 ∷ 0 ∷ 0 ∷ [])) ≡ word "no 2\n")
    × (over_text (sevens (0x3F ∷ 0x10 ∷ 0x3F ∷ 0 ∷ 0 ∷ 0 ∷ 0 ∷ [])) ≡ word "no 4\n")
    × (over_text [] ≡ word "no 4\n")
unfolding count_leading_zeros then turns bits_at position read_bits get_bit get_bits get_flag get_uniform
    in_domain superblocks width_limit area_limit doublings min_log2_cols max_log2_cols max_log2_rows min_log2_tiles
    tabulate read_sizes sum widest read_cols non_uniform_layout parse_tile_info multiplier_of
    word decimal decimal_in nexts starts_at given_layout request_over refused_text over_text sevens
refused = (refl, refl, refl)
