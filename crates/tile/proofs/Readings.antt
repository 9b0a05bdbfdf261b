-- Document 01's listing, and the empty input, computed. Assumes nothing.
use lib.Count.{count_leading_zeros}
use mathlib.Core.List.{[], ◌∷◌}
use mathlib.Core.Path.{◌≡◌, refl}
use Rattle.getbits.specs.Chain.{then, turns}
use Rattle.getbits.specs.Bits.{bits_at, position, read_bits, get_bit, get_bits, get_flag}
use Rattle.codes.specs.Codes.{run_of, get_uniform}
use Rattle.tile_layout.specs.Limits.{in_domain, superblocks, width_limit, area_limit, doublings, min_log2_cols, max_log2_cols, max_log2_rows, min_log2_tiles}
use Rattle.tile_layout.specs.Layout.{tabulate, full_count, base, count, larger, start_at, read_log2, uniform_info, uniform_layout, read_sizes, sum, widest, starts_from}
use Rattle.tile_layout.specs.Layout.{row_area, row_limit, read_cols, read_rows, non_uniform_info, non_uniform_layout, parse_tile_info}
use Rattle.superblocks.specs.Counts.{multiplier_of}
use Rattle.text.specs.Text.{word, decimal, decimal_in, nexts, row}
use Rattle.program.specs.Output.{accepted_text, refused_text}
use Rattle.tile_request.specs.Request.{request_over, tile_request}
use Rattle.tile_request.specs.Print.{tile_head_text, tile_layout_text, tile_read_text}
use Rattle.tile.specs.Print.{tile_text}

listing : tile_text (0xFF ∷ 0x00 ∷ 0x7F ∷ 0x00 ∷ 0 ∷ 0 ∷ 0 ∷ 0 ∷ 0x28 ∷ []) ≡ word "ok N 3 1 5 0\n0 2 3 4\n0 2\n"
unfolding count_leading_zeros then turns bits_at position read_bits get_bit get_bits get_flag run_of get_uniform
    in_domain superblocks width_limit area_limit doublings min_log2_cols max_log2_cols max_log2_rows min_log2_tiles
    tabulate full_count base count larger start_at read_log2 uniform_info uniform_layout read_sizes sum widest starts_from
    row_area row_limit read_cols read_rows non_uniform_info non_uniform_layout parse_tile_info multiplier_of
    word decimal decimal_in nexts row request_over tile_request tile_head_text tile_layout_text accepted_text refused_text tile_read_text tile_text
listing = refl

nothing : tile_text [] ≡ word "no 4\n"
unfolding word decimal decimal_in nexts request_over tile_request refused_text tile_read_text tile_text
nothing = refl
