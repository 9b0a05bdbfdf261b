-- A sequence header as flat numbers: each record's fields in the order of its declaration, depth first.
-- Its layout stands in buffers of its own.
use Rattle.std.specs.Prelude.{ℕ, Bool, false, List, [], ◌∷◌, ◌++◌, map, ℤ, pos, get_or}
use Rattle.seq_fields.specs.Fields.{bit_of}
use Rattle.seq_blocks.specs.declared.Blocks.{Blocks}
use Rattle.seq_blocks.specs.declared.Intra.{Intra}
use Rattle.seq_blocks.specs.declared.Partition.{Partition}
use Rattle.seq_blocks.specs.declared.SeqSegmentation.{SeqSegmentation}
use Rattle.seq_fields.specs.declared.AdaptiveBoolean.{AdaptiveBoolean}
use Rattle.seq_fields.specs.declared.PixelLayout.{PixelLayout}
use Rattle.seq_inter.specs.declared.Drl.{Drl}
use Rattle.seq_inter.specs.declared.Inter.{Inter}
use Rattle.seq_inter.specs.declared.Motion.{Motion}
use Rattle.seq_inter.specs.declared.Mv.{Mv}
use Rattle.seq_inter.specs.declared.RefFrames.{RefFrames}
use Rattle.seq_inter.specs.declared.Screen.{Screen}
use Rattle.seq_inter.specs.declared.Tip.{Tip}
use Rattle.seq_picture.specs.declared.CropInfo.{CropInfo}
use Rattle.seq_picture.specs.declared.Dependencies.{Dependencies}
use Rattle.seq_picture.specs.declared.Format.{Format}
use Rattle.seq_picture.specs.declared.FrameSize.{FrameSize}
use Rattle.seq_picture.specs.declared.Layers.{Layers}
use Rattle.seq_picture.specs.declared.Level.{Level}
use Rattle.seq_picture.specs.declared.Picture.{Picture}
use Rattle.seq_record.specs.declared.SequenceHeader.{SequenceHeader}
use Rattle.seq_record.specs.declared.Start.{Start}
use Rattle.seq_residual.specs.declared.Entropy.{Entropy}
use Rattle.seq_residual.specs.declared.Filters.{Filters}
use Rattle.seq_residual.specs.declared.Quant.{Quant}
use Rattle.seq_residual.specs.declared.Residual.{Residual}
use Rattle.seq_residual.specs.declared.Transform.{Transform}
use Rattle.seq_fields.specs.declared.AdaptiveBoolean.TheVariants.{Off, On, Adaptive}
use Rattle.seq_fields.specs.declared.PixelLayout.TheVariants.{I400, I420, I422, I444}
use Rattle.flat.specs.Segments.{flat_masks}

-- unsigned numbers among signed ones
abbrev pub as_signed : List ℕ → List ℤ
as_signed xs = map pos xs

-- the enums by the Rust's numbers
abbrev pub layout_number : PixelLayout → ℕ
layout_number I400 = 0
layout_number I420 = 1
layout_number I422 = 2
layout_number I444 = 3

abbrev pub adaptive_number : AdaptiveBoolean → ℕ
adaptive_number Off = 0
adaptive_number On = 1
adaptive_number Adaptive = 2

-- id and profile
abbrev pub flat_start : Start → List ℤ
flat_start s = as_signed (s.id ∷ s.profile ∷ [])

-- the reduced form, level and tier
abbrev pub flat_level : Level → List ℤ
flat_level l = as_signed (bit_of l.reduced_still_picture_header ∷ l.level ∷ l.tier ∷ [])

-- the pixel format
abbrev pub flat_format : Format → List ℤ
flat_format f = as_signed (layout_number f.layout ∷ f.ss_hor ∷ f.ss_ver ∷ f.hbd ∷ [])

-- layers
abbrev pub flat_layers : Layers → List ℤ
flat_layers l =
    as_signed (l.lcr_id ∷ bit_of l.still_picture ∷ l.max_tlayer_id ∷ l.max_mlayer_id
    ∷ bit_of l.monotonic ∷ [])

-- the frame size
unfoldable pub flat_size : FrameSize → List ℤ
flat_size s = as_signed (s.width_n_bits ∷ s.height_n_bits ∷ []) ++ (s.max_width ∷ s.max_height ∷ [])

-- the crop window
abbrev pub flat_crop : CropInfo → List ℤ
flat_crop c = as_signed (bit_of c.enabled ∷ c.left ∷ c.right ∷ c.top ∷ c.bottom ∷ [])

-- dependencies of layers
unfoldable pub flat_dependencies : Dependencies → List ℤ
flat_dependencies d =
    as_signed (bit_of d.tlayer_dependency_present ∷ bit_of d.mlayer_dependency_present ∷ [])
    ++ as_signed d.tlayer_dependencies ++ as_signed d.mlayer_dependencies

-- the picture: the last four
unfoldable pub flat_picture : Picture → List ℤ
flat_picture p = flat_layers p.layers ++ flat_size p.size ++ flat_crop p.crop ++ flat_dependencies p.dependencies

-- partition tools
abbrev pub flat_partition : Partition → List ℤ
flat_partition p =
    as_signed (p.sb128 ∷ bit_of p.sdp ∷ bit_of p.ext_sdp ∷ bit_of p.ext_partitions
    ∷ bit_of p.uneven_4way_partitions ∷ p.max_pb_aspect_ratio_log2 ∷ [])

-- segmentation
unfoldable pub flat_segmentation : SeqSegmentation → List ℤ
flat_segmentation s =
    as_signed (bit_of s.ext ∷ bit_of s.info_present ∷ bit_of s.adaptive ∷ []) ++ s.d.delta_q
    ++ as_signed (flat_masks s.d)

-- intra tools
abbrev pub flat_intra : Intra → List ℤ
flat_intra i =
    as_signed (bit_of i.intra_dip ∷ bit_of i.intra_edge_filter ∷ bit_of i.mrls ∷ bit_of i.cfl
    ∷ i.cfl_ds_filter_index ∷ bit_of i.mhccp ∷ bit_of i.ibp ∷ [])

-- the blocks: the last three
unfoldable pub flat_blocks : Blocks → List ℤ
flat_blocks b = flat_partition b.partition ++ flat_segmentation b.segmentation ++ flat_intra b.intra

-- motion modes
abbrev pub flat_motion : Motion → List ℤ
flat_motion m =
    as_signed (m.motion_modes ∷ bit_of m.frame_motion_modes_present ∷ bit_of m.six_param_warp_delta
    ∷ bit_of m.masked_compound ∷ bit_of m.ref_frame_mvs ∷ m.reduced_ref_frame_mvs_mode
    ∷ m.order_hint_n_bits ∷ [])

-- reference frames
abbrev pub flat_ref_frames : RefFrames → List ℤ
flat_ref_frames f =
    as_signed (bit_of f.refmv_bank ∷ f.drl_reorder ∷ bit_of f.explicit_ref_frame_map
    ∷ f.ref_frames ∷ f.ref_frames_log2 ∷ [])

-- reference lists
abbrev pub flat_drl : Drl → List ℤ
flat_drl d =
    as_signed (d.number_of_bits_for_lt_frame_id ∷ d.def_max_drl_bits
    ∷ bit_of d.allow_frame_max_drl_bits ∷ d.def_max_bvp_drl_bits ∷ bit_of d.allow_max_bvp_drl_bits
    ∷ d.num_same_ref_comp ∷ [])

-- temporal interpolation
abbrev pub flat_tip : Tip → List ℤ
flat_tip t =
    as_signed (bit_of t.tip ∷ bit_of t.tip_hole_fill ∷ bit_of t.mv_traj ∷ bit_of t.bawp
    ∷ bit_of t.cwp ∷ bit_of t.imp_msk_bld ∷ bit_of t.db_sub_pu ∷ bit_of t.tip_explicit_qp ∷ [])

-- motion vectors
abbrev pub flat_mv : Mv → List ℤ
flat_mv m =
    as_signed (bit_of m.opfl_refine ∷ bit_of m.refine_mv ∷ bit_of m.tip_refine_mv ∷ bit_of m.bru
    ∷ bit_of m.adaptive_mvd ∷ bit_of m.mvd_sign_derive ∷ bit_of m.flex_mvres
    ∷ bit_of m.global_motion ∷ bit_of m.short_refresh_frame_flags ∷ [])

-- screen content
abbrev pub flat_screen : Screen → List ℤ
flat_screen s = as_signed (adaptive_number s.screen_content_tools ∷ adaptive_number s.force_integer_mv ∷ [])

-- inter tools: the last four
unfoldable pub flat_inter : Inter → List ℤ
flat_inter i = flat_drl i.drl ++ flat_tip i.tip ++ flat_mv i.mv ++ flat_screen i.screen

-- transforms
abbrev pub flat_transform : Transform → List ℤ
flat_transform t =
    as_signed (bit_of t.fsc ∷ bit_of t.idtx_intra ∷ bit_of (get_or t.ist 0 false)
    ∷ bit_of (get_or t.ist 1 false) ∷ bit_of t.chroma_dctonly ∷ bit_of t.inter_ddt
    ∷ bit_of t.reduced_tx_part_set ∷ bit_of t.cctx ∷ [])

-- entropy coding
abbrev pub flat_entropy : Entropy → List ℤ
flat_entropy e =
    as_signed (adaptive_number e.tcq ∷ bit_of e.parity_hiding ∷ bit_of e.avg_cdf ∷ e.avg_cdf_type
    ∷ [])

-- quantisation
unfoldable pub flat_quant : Quant → List ℤ
flat_quant q = as_signed (bit_of q.separate_uv_delta_q ∷ bit_of q.equal_ac_dc_q ∷ [])
    ++ (q.base_ydc_dq ∷ [])
    ++ as_signed (bit_of q.ydc_dq_enabled ∷ q.base_uvdc_dq ∷ bit_of q.uvdc_dq_enabled
    ∷ q.base_uvac_dq ∷ bit_of q.uvac_dq_enabled ∷ [])

-- the residual: the last three
unfoldable pub flat_residual : Residual → List ℤ
flat_residual x = flat_transform x.transform ++ flat_entropy x.entropy ++ flat_quant x.quant

-- loop filters
abbrev pub flat_filters : Filters → List ℤ
flat_filters f =
    as_signed (bit_of f.disable_loopfilters_across_tiles ∷ bit_of f.cdef ∷ bit_of f.gdf
    ∷ bit_of f.gdf_unit_matches_sbsz ∷ bit_of f.restoration ∷ get_or f.rst_disable_mask 0 0
    ∷ get_or f.rst_disable_mask 1 0 ∷ bit_of f.ccso ∷ bit_of f.ccso_unit_matches_sbsz
    ∷ adaptive_number f.cdef_on_skiptx ∷ f.df_par_bits ∷ [])

-- whether there is a layout, and film grain
abbrev pub flat_last : AdaptiveBoolean → Bool → List ℤ
flat_last present grain = as_signed (adaptive_number present ∷ bit_of grain ∷ [])

-- the whole header without its layout, 146 numbers
unfoldable pub flat_seq_hdr : SequenceHeader → List ℤ
flat_seq_hdr hdr = flat_start hdr.start
    ++ flat_level hdr.level
    ++ flat_format hdr.format
    ++ flat_picture hdr.picture
    ++ flat_blocks hdr.blocks
    ++ (flat_motion hdr.motion ++ flat_ref_frames hdr.refs)
    ++ flat_inter hdr.inter
    ++ flat_residual hdr.residual
    ++ flat_filters hdr.filters
    ++ flat_last hdr.tiling.present hdr.film_grain_present
