-- Some sizes, the empty input and a first byte of 2, computed. Assumes nothing.
use lib.Count.{count_leading_zeros}
use mathlib.Core.List.{[], ◌∷◌}
use mathlib.Core.Path.{◌≡◌, refl}
use Rattle.getbits.specs.Chain.{then, turns}
use Rattle.getbits.specs.Bits.{bits_at, position, read_bits, get_bit, get_bits, get_flag}
use Rattle.codes.specs.Codes.{run_of, get_uniform}
use Rattle.tile_layout.specs.Limits.{in_domain, superblocks, width_limit, area_limit, doublings, min_log2_cols, max_log2_cols, max_log2_rows, min_log2_tiles}
use Rattle.tile_layout.specs.Layout.{tabulate, full_count, base, count, larger, start_at, read_log2, uniform_info, uniform_layout, read_sizes, sum, widest, starts_from}
use Rattle.tile_layout.specs.Layout.{row_area, row_limit, read_cols, read_rows, non_uniform_info, non_uniform_layout, parse_tile_info}
use Rattle.superblocks.specs.Counts.{multiplier_of}
use Rattle.text.specs.Text.{word, decimal, decimal_in, nexts, row}
use Rattle.program.specs.Output.{accepted_text, refused_text, chosen_text, either_text}
use Rattle.tile_limit.specs.Within.{tiles_within}
use Rattle.tile_request.specs.Request.{request_over, tile_request}
use Rattle.tile_request.specs.Print.{tile_head_text, tile_layout_text, tile_read_text}
use Rattle.panel.specs.Print.{panel_text}

-- without data each column and each row gets one superblock: 1024 by 512, 1088 by 64, 64 by 576, 4096 by 64 and 4160 by 64.
-- The panel shows 16 columns and 8 rows, and a layout has 64 of each at most
sizes :
    (panel_text (0 ∷ 0xFF ∷ 0x03 ∷ 0xFF ∷ 0x01 ∷ 0 ∷ 0 ∷ 0 ∷ 0 ∷ []) ≡ word "ok N 16 8 0 1\n0 1 2 3 4 5 6 7 8 9 10 11 12 13 14 15 16\n0 1 2 3 4 5 6 7 8\n")
    × (panel_text (0 ∷ 0x3F ∷ 0x04 ∷ 0x3F ∷ 0x00 ∷ 0 ∷ 0 ∷ 0 ∷ 0 ∷ []) ≡ word "no 6\n")
    × (panel_text (0 ∷ 0x3F ∷ 0x00 ∷ 0x3F ∷ 0x02 ∷ 0 ∷ 0 ∷ 0 ∷ 0 ∷ []) ≡ word "no 6\n")
    × (panel_text (0 ∷ 0xFF ∷ 0x0F ∷ 0x3F ∷ 0x00 ∷ 0 ∷ 0 ∷ 0 ∷ 0 ∷ []) ≡ word "no 6\n")
    × (panel_text (0 ∷ 0x3F ∷ 0x10 ∷ 0x3F ∷ 0x00 ∷ 0 ∷ 0 ∷ 0 ∷ 0 ∷ []) ≡ word "no 2\n")
unfolding count_leading_zeros then turns bits_at position read_bits get_bit get_bits get_flag run_of get_uniform
    in_domain superblocks width_limit area_limit doublings min_log2_cols max_log2_cols max_log2_rows min_log2_tiles
    tabulate full_count base count larger start_at read_log2 uniform_info uniform_layout read_sizes sum widest starts_from
    row_area row_limit read_cols read_rows non_uniform_info non_uniform_layout parse_tile_info multiplier_of tiles_within
    word decimal decimal_in nexts row request_over tile_request tile_head_text tile_layout_text accepted_text refused_text tile_read_text
    chosen_text either_text panel_text
sizes = (refl, refl, refl, refl, refl)

nothing : panel_text [] ≡ word "no 4\n"
unfolding word decimal decimal_in nexts refused_text either_text panel_text
nothing = refl

another : panel_text (2 ∷ []) ≡ word "no 4\n"
unfolding word decimal decimal_in nexts refused_text chosen_text either_text panel_text
another = refl
