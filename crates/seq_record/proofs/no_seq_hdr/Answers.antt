use Rattle.seq_record.proofs.no_seq_hdr.Goals as goal

pub returns : goal.returns
returns c =
    simp (c.no_tile_info-t.ensures, c.no_filters-filters.ensures, c.no_residual-residual.ensures, c.no_inter-inter.ensures, c.no_ref_frames-refs.ensures, c.no_motion-motion.ensures, c.no_blocks-blocks.ensures, c.no_picture-picture.ensures)
