-- The zero sequence header: every number 0, every flag unset, I400 and Off.
use Rattle.std.specs.Prelude.{false, pos, replicate}
use Rattle.tile_layout.specs.Limits.{no_tile_info}
use Rattle.seg_info.specs.Seg.{no_seg_info}
use Rattle.seq_fields.specs.declared.AdaptiveBoolean.TheVariants.{Off}
use Rattle.seq_fields.specs.declared.PixelLayout.TheVariants.{I400}
use Rattle.seq_picture.specs.declared.Picture.{Picture}
use Rattle.seq_blocks.specs.declared.Blocks.{Blocks}
use Rattle.seq_inter.specs.declared.Motion.{Motion}
use Rattle.seq_inter.specs.declared.RefFrames.{RefFrames}
use Rattle.seq_inter.specs.declared.Inter.{Inter}
use Rattle.seq_residual.specs.declared.Residual.{Residual}
use Rattle.seq_residual.specs.declared.Filters.{Filters}
use Rattle.seq_record.specs.declared.SequenceHeader.{SequenceHeader}

-- layers, frame size, crop window, dependencies
abbrev pub no_picture : Picture
no_picture = record {
  layers = record { lcr_id = 0; still_picture = false; max_tlayer_id = 0; max_mlayer_id = 0; monotonic = false };
  size = record { width_n_bits = 0; height_n_bits = 0; max_width = pos 0; max_height = pos 0 };
  crop = record { enabled = false; left = 0; right = 0; top = 0; bottom = 0 };
  dependencies = record {
    tlayer_dependency_present = false;
    mlayer_dependency_present = false;
    tlayer_dependencies = replicate 8 0;
    mlayer_dependencies = replicate 8 0;
  };
}

-- partition, segmentation, intra tools
abbrev pub no_blocks : Blocks
no_blocks = record {
  partition = record {
    sb128 = 0;
    sdp = false;
    ext_sdp = false;
    ext_partitions = false;
    uneven_4way_partitions = false;
    max_pb_aspect_ratio_log2 = 0;
  };
  segmentation = record { ext = false; info_present = false; adaptive = false; d = no_seg_info };
  intra = record {
    intra_dip = false;
    intra_edge_filter = false;
    mrls = false;
    cfl = false;
    cfl_ds_filter_index = 0;
    mhccp = false;
    ibp = false;
  };
}

-- motion modes
abbrev pub no_motion : Motion
no_motion = record {
  motion_modes = 0;
  frame_motion_modes_present = false;
  six_param_warp_delta = false;
  masked_compound = false;
  ref_frame_mvs = false;
  reduced_ref_frame_mvs_mode = 0;
  order_hint_n_bits = 0;
}

-- reference frames
abbrev pub no_ref_frames : RefFrames
no_ref_frames = record {
  refmv_bank = false;
  drl_reorder = 0;
  explicit_ref_frame_map = false;
  ref_frames = 0;
  ref_frames_log2 = 0;
}

-- inter tools
abbrev pub no_inter : Inter
no_inter = record {
  drl = record {
    number_of_bits_for_lt_frame_id = 0;
    def_max_drl_bits = 0;
    allow_frame_max_drl_bits = false;
    def_max_bvp_drl_bits = 0;
    allow_max_bvp_drl_bits = false;
    num_same_ref_comp = 0;
  };
  tip = record {
    tip = false;
    tip_hole_fill = false;
    mv_traj = false;
    bawp = false;
    cwp = false;
    imp_msk_bld = false;
    db_sub_pu = false;
    tip_explicit_qp = false;
  };
  mv = record {
    opfl_refine = false;
    refine_mv = false;
    tip_refine_mv = false;
    bru = false;
    adaptive_mvd = false;
    mvd_sign_derive = false;
    flex_mvres = false;
    global_motion = false;
    short_refresh_frame_flags = false;
  };
  screen = record { screen_content_tools = Off; force_integer_mv = Off };
}

-- transforms, entropy coding, quantizers
abbrev pub no_residual : Residual
no_residual = record {
  transform = record {
    fsc = false;
    idtx_intra = false;
    ist = replicate 2 false;
    chroma_dctonly = false;
    inter_ddt = false;
    reduced_tx_part_set = false;
    cctx = false;
  };
  entropy = record { tcq = Off; parity_hiding = false; avg_cdf = false; avg_cdf_type = 0 };
  quant = record {
    separate_uv_delta_q = false;
    equal_ac_dc_q = false;
    base_ydc_dq = pos 0;
    ydc_dq_enabled = false;
    base_uvdc_dq = 0;
    uvdc_dq_enabled = false;
    base_uvac_dq = 0;
    uvac_dq_enabled = false;
  };
}

-- loop filters
abbrev pub no_filters : Filters
no_filters = record {
  disable_loopfilters_across_tiles = false;
  cdef = false;
  gdf = false;
  gdf_unit_matches_sbsz = false;
  restoration = false;
  rst_disable_mask = replicate 2 0;
  ccso = false;
  ccso_unit_matches_sbsz = false;
  cdef_on_skiptx = Off;
  df_par_bits = 0;
}

-- the whole record
abbrev pub no_seq_hdr : SequenceHeader
no_seq_hdr = record {
  start = record { id = 0; profile = 0 };
  level = record { reduced_still_picture_header = false; level = 0; tier = 0 };
  format = record { layout = I400; ss_hor = 0; ss_ver = 0; hbd = 0 };
  picture = no_picture;
  blocks = no_blocks;
  motion = no_motion;
  refs = no_ref_frames;
  inter = no_inter;
  residual = no_residual;
  filters = no_filters;
  tiling = record { present = Off; t = no_tile_info };
  film_grain_present = false;
}
