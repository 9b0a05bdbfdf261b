-- The lines of a sequence header's fields in the order of the Rust's declaration: a field's name and its values.
-- xs are the header's numbers as flat_hdr puts them in a row; each # is the next of them from the given one on.
use Rattle.std.specs.Prelude.{List, [], ◌∷◌, ◌++◌, ℕ, ℤ}
use Prim.Native.String.{String}
use Rattle.flat_hdr.specs.Header.{flat_seq_hdr}
use Rattle.getbits.specs.Chain.{pick}
use Rattle.program.specs.Output.{starts_text}
use Rattle.seq_record.specs.declared.SequenceHeader.{SequenceHeader}
use Rattle.text.specs.Text.{word, nexts, filled, line, lines}
use Rattle.tile_layout.specs.declared.TileInfo.{TileInfo}

-- a name and a number
abbrev pub field : String → ℕ → List ℕ
field name n = line (word name ++ nexts (n ∷ []))

-- the start, the level, the format, layers and their dependencies
unfoldable pub opening_text : List ℤ → List ℕ
opening_text xs =
    filled (lines ("id #" ∷ "profile #" ∷ "reduced_still_picture_header #" ∷ "level #" ∷ "tier #" ∷ "layout #" ∷
    "ss_hor #" ∷ "ss_ver #" ∷ "hbd #" ∷ "lcr_id #" ∷ "still_picture #" ∷ "max_tlayer_id #" ∷
    "max_mlayer_id #" ∷ [])) xs 0
    ++ (filled (lines ("tlayer_dependency_present #" ∷ "mlayer_dependency_present #" ∷ "tlayer_dependencies # # # # # # # #" ∷
    "mlayer_dependencies # # # # # # # #" ∷ [])) xs 23
    ++ filled (lines ("monotonic #" ∷ [])) xs 13)

-- the frame size and the crop window
unfoldable pub size_text : List ℤ → List ℕ
size_text xs =
    filled (lines ("max_width #" ∷ "max_height #" ∷ [])) xs 16
    ++ (filled (lines ("width_n_bits #" ∷ "height_n_bits #" ∷ [])) xs 14
    ++ filled (lines ("crop.enabled #" ∷ "crop.left #" ∷ "crop.right #" ∷ "crop.top #" ∷ "crop.bottom #" ∷ [])) xs 18)

-- blocks, inter tools, transforms and entropy coding
unfoldable pub tools_text : List ℤ → List ℕ
tools_text xs =
    filled (lines ("sb128 #" ∷ "sdp #" ∷ "ext_sdp #" ∷ "ext_partitions #" ∷ "uneven_4way_partitions #" ∷
    "max_pb_aspect_ratio_log2 #" ∷ "segmentation.ext #" ∷ "segmentation.info_present #" ∷
    "segmentation.adaptive #" ∷ "segmentation.d.delta_q # # # # # # # # # # # # # # # #" ∷
    "segmentation.d.delta_q_mask #" ∷ "segmentation.d.skip_mask #" ∷ "segmentation.d.globalmv_mask #" ∷
    "intra_dip #" ∷ "intra_edge_filter #" ∷ "mrls #" ∷ "cfl #" ∷ "cfl_ds_filter_index #" ∷ "mhccp #" ∷
    "ibp #" ∷ [])) xs 41
    ++ (filled (lines ("motion_modes #" ∷ "frame_motion_modes_present #" ∷ "six_param_warp_delta #" ∷ "masked_compound #" ∷
    "ref_frame_mvs #" ∷ "reduced_ref_frame_mvs_mode #" ∷ "order_hint_n_bits #" ∷ "refmv_bank #" ∷
    "drl_reorder #" ∷ "explicit_ref_frame_map #" ∷ "ref_frames #" ∷ "ref_frames_log2 #" ∷
    "number_of_bits_for_lt_frame_id #" ∷ "def_max_drl_bits #" ∷ "allow_frame_max_drl_bits #" ∷
    "def_max_bvp_drl_bits #" ∷ "allow_max_bvp_drl_bits #" ∷ "num_same_ref_comp #" ∷ "tip #" ∷
    "tip_hole_fill #" ∷ "mv_traj #" ∷ "bawp #" ∷ "cwp #" ∷ "imp_msk_bld #" ∷ "db_sub_pu #" ∷
    "tip_explicit_qp #" ∷ "opfl_refine #" ∷ "refine_mv #" ∷ "tip_refine_mv #" ∷ "bru #" ∷ "adaptive_mvd #" ∷
    "mvd_sign_derive #" ∷ "flex_mvres #" ∷ "global_motion #" ∷ "short_refresh_frame_flags #" ∷
    "screen_content_tools #" ∷ "force_integer_mv #" ∷ [])) xs 76
    ++ filled (lines ("fsc #" ∷ "idtx_intra #" ∷ "ist # #" ∷ "chroma_dctonly #" ∷ "inter_ddt #" ∷ "reduced_tx_part_set #" ∷
    "cctx #" ∷ "tcq #" ∷ "parity_hiding #" ∷ "avg_cdf #" ∷ "avg_cdf_type #" ∷ [])) xs 113)

-- loop filters, quantisation, and whether a layout is present
unfoldable pub filters_text : List ℤ → List ℕ
filters_text xs =
    filled (lines ("disable_loopfilters_across_tiles #" ∷ "cdef #" ∷ "gdf #" ∷ "gdf_unit_matches_sbsz #" ∷ "restoration #" ∷
    "rst_disable_mask # #" ∷ "ccso #" ∷ "ccso_unit_matches_sbsz #" ∷ "cdef_on_skiptx #" ∷ "df_par_bits #" ∷ [])) xs 133
    ++ (filled (lines ("separate_uv_delta_q #" ∷ "equal_ac_dc_q #" ∷ "base_ydc_dq #" ∷ "ydc_dq_enabled #" ∷ "base_uvdc_dq #" ∷
    "uvdc_dq_enabled #" ∷ "base_uvac_dq #" ∷ "uvac_dq_enabled #" ∷ [])) xs 125
    ++ filled (lines ("tiling.present #" ∷ [])) xs 144)

-- all of these
unfoldable pub fields_text : List ℤ → List ℕ
fields_text xs = opening_text xs ++ (size_text xs ++ (tools_text xs ++ filters_text xs))

-- the layout's flag and its numbers of columns
unfoldable pub columns_text : TileInfo → List ℕ
columns_text t =
    field "tiling.t.uniform" (pick t.uniform 1 0)
    ++ (field "tiling.t.min_log2_cols" t.min_log2_cols
    ++ (field "tiling.t.max_log2_cols" t.max_log2_cols
    ++ (field "tiling.t.log2_cols" t.log2_cols
    ++ field "tiling.t.cols" t.cols)))

-- its numbers of rows
unfoldable pub rows_text : TileInfo → List ℕ
rows_text t =
    field "tiling.t.min_log2_rows" t.min_log2_rows
    ++ (field "tiling.t.max_log2_rows" t.max_log2_rows
    ++ (field "tiling.t.log2_rows" t.log2_rows
    ++ field "tiling.t.rows" t.rows))

-- the layout: these numbers, then all 65 starts of its columns and of its rows
unfoldable pub seq_layout_text : TileInfo → List ℕ
seq_layout_text t =
    columns_text t
    ++ (rows_text t
    ++ ((word "tiling.t.col_start_sb " ++ starts_text t.col_start_sb 65)
    ++ (word "tiling.t.row_start_sb " ++ starts_text t.row_start_sb 65)))

-- the last field
unfoldable pub grain_text : List ℤ → List ℕ
grain_text xs = filled (lines ("film_grain_present #" ∷ [])) xs 145

-- the whole header
unfoldable pub header_text : SequenceHeader → List ℕ
header_text hdr = fields_text (flat_seq_hdr hdr) ++ (seq_layout_text hdr.tiling.t ++ grain_text (flat_seq_hdr hdr))
