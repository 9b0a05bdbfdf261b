use Rattle.seq_record.proofs.no_blocks.Goals as goal

pub returns : goal.returns
returns c = simp c.no_seg_info-d.ensures
