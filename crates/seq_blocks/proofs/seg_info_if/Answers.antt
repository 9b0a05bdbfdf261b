use Rattle.seq_blocks.specs.Blocks.{seg_info_if}
use Rattle.seq_blocks.proofs.seg_info_if.Goals as goal

pub returns-then-cond : goal.returns-then-cond
unfolding seg_info_if
returns-then-cond c = cc

pub returns : goal.returns
unfolding seg_info_if
returns c = cc
