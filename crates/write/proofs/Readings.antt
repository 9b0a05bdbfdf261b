-- What is printed of layouts that are written and of others that are refused, computed. Assumes nothing.
use lib.Count.{count_leading_zeros}
use mathlib.Core.List.{List, [], ◌∷◌, ◌++◌}
use mathlib.Core.Path.{◌≡◌, refl}
use Prim.Native.Nat.{ℕ}
use lib.ListN.{take, replicate}
use Rattle.getbits.specs.Chain.{then, turns}
use Rattle.getbits.specs.Bits.{bits_at, position, read_bits, get_bit, get_bits, get_flag}
use Rattle.codes.specs.Codes.{run_of, get_uniform}
use Rattle.tile_layout.specs.Limits.{in_domain, superblocks, width_limit, area_limit, doublings, min_log2_cols, max_log2_cols, max_log2_rows, min_log2_tiles}
use Rattle.tile_layout.specs.Layout.{tabulate, full_count, base, count, larger, start_at, read_log2, uniform_info, uniform_layout, read_sizes, sum, widest, starts_from}
use Rattle.tile_layout.specs.Layout.{row_area, row_limit, read_cols, read_rows, non_uniform_info, non_uniform_layout, parse_tile_info}
use Rattle.superblocks.specs.Counts.{multiplier_of}
use Rattle.layout_bits.specs.Rows.{bytes_of}
use Rattle.layout_bits.specs.Bits.{bits_of, uniform_code, ones_code, logs_code, sizes_code, sides_code, layout_bits}
use Rattle.layout_writing.specs.Write.{same_list, same_numbers, same_layout, reads_as, write_tile_info}
use Rattle.text.specs.Text.{word, decimal, decimal_in, nexts, row}
use Rattle.program.specs.Output.{refused_text}
use Rattle.tile_request.specs.Layout.{starts_at, given_layout}
use Rattle.write.specs.Print.{bits_text, written_text, request_text, write_text}

-- 65 starts, two bytes each: these, below 256, and zeros behind them
twos : List ℕ → List ℕ
twos [] = []
twos (x ∷ xs) = x ∷ 0 ∷ twos xs

starts : List ℕ → List ℕ
starts xs = take 130 (twos xs ++ replicate 130 0)

-- 600 by 128, codes 1 and 2, uniform: three columns, one row
even : List ℕ → ℕ → ℕ → List ℕ
even cols log2 size =
    0x57 ∷ 0x02 ∷ 0x7F ∷ 0 ∷ 1 ∷ 2 ∷ 0 ∷ 0 ∷ 1 ∷ 0 ∷ 3 ∷ log2 ∷ 3 ∷ 0 ∷ 0 ∷ 0 ∷ 1 ∷ (starts cols ++ starts (0 ∷ 1 ∷ []) ++ (size ∷ 0 ∷ []))

-- 1280 by 720, non-uniform: four columns of five superblocks, two rows of six
sized : List ℕ
sized =
    0xFF ∷ 0x04 ∷ 0xCF ∷ 0x02 ∷ 0 ∷ 0 ∷ 0 ∷ 0 ∷ 0 ∷ 0 ∷ 5 ∷ 2 ∷ 4 ∷ 0 ∷ 4 ∷ 1 ∷ 2 ∷ (starts (0 ∷ 5 ∷ 10 ∷ 15 ∷ 20 ∷ []) ++ starts (0 ∷ 6 ∷ 12 ∷ []) ++ (3 ∷ 0 ∷ []))

-- three columns of the frame's five superblocks
columns : List ℕ
columns = 0 ∷ 2 ∷ 4 ∷ 5 ∷ []

-- the logarithm decides the bits, though 2 and 3 give the same columns; 8 is asked before 5, and is the answer where an entry behind the closing one is not 0
printed :
    (write_text (even columns 2 1) ≡ word "ok 4\n224\n")
    × (write_text (even columns 3 1) ≡ word "ok 4\n240\n")
    × (write_text (even columns 2 0) ≡ word "no 5\n")
    × (write_text (even columns 4 0) ≡ word "no 8\n")
    × (write_text (even (columns ++ (1 ∷ [])) 2 1) ≡ word "no 8\n")
    × (write_text sized ≡ word "ok 22\n34 207 60\n")
    × (write_text [] ≡ word "no 4\n")
unfolding count_leading_zeros then turns bits_at position read_bits get_bit get_bits get_flag run_of get_uniform
    in_domain superblocks width_limit area_limit doublings min_log2_cols max_log2_cols max_log2_rows min_log2_tiles
    tabulate full_count base count larger start_at read_log2 uniform_info uniform_layout read_sizes sum widest starts_from
    row_area row_limit read_cols read_rows non_uniform_info non_uniform_layout parse_tile_info multiplier_of
    bytes_of bits_of uniform_code ones_code logs_code sizes_code sides_code layout_bits same_list same_numbers same_layout reads_as write_tile_info
    word decimal decimal_in nexts row refused_text starts_at given_layout bits_text written_text request_text write_text twos starts even columns sized
printed = (refl, refl, refl, refl, refl, refl, refl)
