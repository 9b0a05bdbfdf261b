-- Every row of the table holds: its answer is computed. Assumes nothing.
use mathlib.Core.Path.{refl}
use mathlib.Core.List.{List, [], ◌∷◌, Memᴰ}
use lib.Count.{count_leading_zeros}
use Rattle.getbits.specs.Chain.{then, turns}
use Rattle.getbits.specs.Bits.{bits_at, position, read_bits, get_bit, get_bits, get_flag, flag_if, bits_if}
use Rattle.codes.specs.Codes.{run_of, get_vlc, get_uniform, vlc_if, uniform_if}
use Rattle.tile_layout.specs.Limits.{in_domain, superblocks, width_limit, area_limit, doublings, min_log2_cols, max_log2_cols, max_log2_rows, min_log2_tiles}
use Rattle.tile_layout.specs.Layout.{tabulate, full_count, base, count, larger, start_at, read_log2, uniform_info, uniform_layout, read_sizes, sum, widest, starts_from}
use Rattle.tile_layout.specs.Layout.{row_area, row_limit, read_cols, read_rows, non_uniform_info, non_uniform_layout, parse_tile_info}
use Rattle.seq_fields.specs.Fields.{get_small, small_if}
use Rattle.seq_picture.specs.Level.{read_level, read_format}
use Rattle.seq_picture.specs.Picture.{read_layers, read_length, read_frame_size, read_crop, skip_models, read_layer_list, read_dependencies, read_picture}
use Rattle.seq_blocks.specs.Blocks.{read_partition, seg_info_if, read_segmentation, read_intra, read_blocks}
use Rattle.seq_inter.specs.Refs.{read_motion, read_ref_frames}
use Rattle.seq_inter.specs.Inter.{count_if, read_drl, read_tip, read_mv, read_screen, read_inter}
use Rattle.seq_residual.specs.Residual.{read_transform, read_entropy, signed_if, wrapped_if, read_quant, read_residual}
use Rattle.seq_residual.specs.Filters.{read_restoration, read_filters}
use Rattle.seq_hdr.specs.Tiling.{tile_info_if, read_tiling}
use Rattle.seq_hdr.specs.Header.{read_start, refused_header, check_trailing_bits, read_groups, read_head, parse_seq_hdr}
use Rattle.superblocks.specs.Counts.{multiplier_of, fits_uniform}
use Rattle.frame_layout.specs.Frame.{starts_low, usable_tiles, usable, in_frame_domain, frame_code, reuse_allowed, ask_reuse, read_reuse, reused_starts, reused_info, parse_tile_info_frmhdr}
use Rattle.rectangles.specs.Rectangles.{rising, has_rectangles, each, rectangles, tile_rectangles}
use Rattle.text.specs.Text.{word, decimal_in, decimal, nexts, row}
use Rattle.program.specs.Output.{accepted_text}
use Rattle.tile_request.specs.Print.{tile_head_text, tile_layout_text, tile_read_text}
use Rattle.tile_request.specs.Request.{request_over, tile_request}
use Rattle.layout_bits.specs.Rows.{bytes_of}
use Rattle.layout_bits.specs.Bits.{bits_of, uniform_code, ones_code, logs_code, sizes_code, sides_code, layout_bits}
use Rattle.layout_writing.specs.Write.{same_list, same_numbers, same_layout, reads_as, write_tile_info}
use Rattle.readings.specs.Readings.{Row, answer_to, Holds, table, EveryRowHolds}

-- every row of a list holds
Every : List Row → Type 0
Every [] = Unit
Every (r ∷ l) = Holds r × Every l

-- every row of the table is computed, a `refl` for each
computed : Every table
unfolding Every answer_to table count_leading_zeros then turns bits_at position read_bits get_bit get_bits get_flag flag_if bits_if run_of get_vlc get_uniform vlc_if uniform_if
    in_domain superblocks width_limit area_limit doublings min_log2_cols max_log2_cols max_log2_rows min_log2_tiles
    tabulate full_count base count larger start_at read_log2 uniform_info uniform_layout read_sizes sum widest starts_from
    row_area row_limit read_cols read_rows non_uniform_info non_uniform_layout parse_tile_info get_small small_if read_level read_format
    read_layers read_length read_frame_size read_crop skip_models read_layer_list read_dependencies read_picture
    read_partition seg_info_if read_segmentation read_intra read_blocks read_motion read_ref_frames
    count_if read_drl read_tip read_mv read_screen read_inter read_transform read_entropy signed_if wrapped_if read_quant read_residual
    read_restoration read_filters tile_info_if read_tiling read_start refused_header check_trailing_bits read_groups read_head parse_seq_hdr
    multiplier_of fits_uniform starts_low usable_tiles usable in_frame_domain frame_code reuse_allowed ask_reuse read_reuse reused_starts reused_info parse_tile_info_frmhdr
    rising has_rectangles each rectangles tile_rectangles
    word decimal_in decimal nexts row accepted_text tile_head_text tile_layout_text tile_read_text request_over tile_request
    bytes_of bits_of uniform_code ones_code logs_code sizes_code sides_code layout_bits same_list same_numbers same_layout reads_as write_tile_info
computed = (refl, (refl, (refl, (refl, (refl, (refl, (refl, (refl, (refl, (refl, (refl, (refl, (refl, (refl, (refl, (refl, (refl, (refl, (refl, (refl, (refl, (refl, (refl, (refl, (refl, (refl, (refl, (refl, (refl, (refl, (refl, (refl, (refl, (refl, (refl, tt)))))))))))))))))))))))))))))))))))

-- a row that is in the list is one of them
among : (l : List Row) → Every l → (r : Row) → Memᴰ r l → Holds r
unfolding Every
among [] _ r m = elim m [ ]
among (x ∷ l) (e, es) r (Memᴰ.head q) = cc
among (x ∷ l) (e, es) r (Memᴰ.tail m) = among l es r m

pub every_row_holds : EveryRowHolds
every_row_holds = among table computed
