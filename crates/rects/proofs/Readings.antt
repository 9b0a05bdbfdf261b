-- Two rows of three tiles, a picture with a last tile that is cut, the empty input and a first byte of 2, computed. Assumes nothing.
use lib.Count.{count_leading_zeros}
use mathlib.Core.List.{[], ◌∷◌}
use mathlib.Core.Path.{◌≡◌, refl}
use Rattle.getbits.specs.Chain.{then, turns}
use Rattle.getbits.specs.Bits.{bits_at, position, read_bits, get_bit, get_bits, get_flag}
use Rattle.codes.specs.Codes.{run_of, get_uniform}
use Rattle.tile_layout.specs.Limits.{in_domain, superblocks, width_limit, area_limit, doublings, min_log2_cols, max_log2_cols, max_log2_rows, min_log2_tiles}
use Rattle.tile_layout.specs.Layout.{full_count, base, count, larger, start_at, read_log2, uniform_info, uniform_layout}
use Rattle.tile_layout.specs.Layout.{tabulate, read_sizes, sum, widest, starts_from, row_area, row_limit, read_cols, read_rows, non_uniform_info, non_uniform_layout, parse_tile_info}
use Rattle.superblocks.specs.Counts.{multiplier_of}
use Rattle.text.specs.Text.{word, decimal, decimal_in, nexts, row}
use Rattle.program.specs.Output.{refused_text, chosen_text, either_text}
use Rattle.rectangles.specs.Rectangles.{rising, has_rectangles, each}
use Rattle.tile_request.specs.Request.{request_over, tile_request}
use Rattle.rects.specs.Print.{rectangles_text, read_text, tile_rects_text, rects_text}

-- 256 by 128, non-uniform: columns 0 2 3 4, rows 0 1 2
two_rows :
    rects_text (0 ∷ 0xFF ∷ 0 ∷ 0x7F ∷ 0 ∷ 0 ∷ 0 ∷ 0 ∷ 0 ∷ 0x20 ∷ [])
    ≡ word "ok 6\n0 0 128 64\n128 0 64 64\n192 0 64 64\n0 64 128 64\n128 64 64 64\n192 64 64 64\n"
unfolding count_leading_zeros then turns bits_at position read_bits get_bit get_bits get_flag run_of get_uniform
    in_domain superblocks width_limit area_limit doublings min_log2_cols max_log2_cols max_log2_rows min_log2_tiles
    tabulate read_sizes sum widest starts_from row_area row_limit read_cols read_rows non_uniform_info non_uniform_layout parse_tile_info multiplier_of
    word decimal decimal_in nexts row request_over tile_request rising has_rectangles each rectangles_text read_text tile_rects_text chosen_text either_text rects_text
two_rows = refl

-- 330 by 64, uniform: columns 0 2 3 4 6
cut :
    rects_text (0 ∷ 0x49 ∷ 0x01 ∷ 0x3F ∷ 0 ∷ 0 ∷ 0 ∷ 0 ∷ 0 ∷ 0xE0 ∷ [])
    ≡ word "ok 4\n0 0 128 64\n128 0 64 64\n192 0 64 64\n256 0 74 64\n"
unfolding count_leading_zeros then turns bits_at position read_bits get_bit get_bits get_flag run_of
    in_domain superblocks width_limit area_limit doublings min_log2_cols max_log2_cols max_log2_rows min_log2_tiles
    tabulate full_count base count larger start_at read_log2 uniform_info uniform_layout parse_tile_info multiplier_of
    word decimal decimal_in nexts row request_over tile_request rising has_rectangles each rectangles_text read_text tile_rects_text chosen_text either_text rects_text
cut = refl

nothing : rects_text [] ≡ word "no 4\n"
unfolding word decimal decimal_in nexts refused_text either_text rects_text
nothing = refl

another : rects_text (2 ∷ []) ≡ word "no 4\n"
unfolding word decimal decimal_in nexts refused_text chosen_text either_text rects_text
another = refl
