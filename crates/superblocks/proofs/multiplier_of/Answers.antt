use Rattle.std.proofs.Common.{sym, arith}
use Rattle.getbits.proofs.Chain.{taken, left}
use Rattle.superblocks.specs.Counts.{multiplier_of}
use Rattle.superblocks.proofs.multiplier_of.Goals as goal

pub returns-then-frame_code-seq_code : goal.returns-then-frame_code-seq_code
unfolding multiplier_of
returns-then-frame_code-seq_code c = (sym (taken _ _ _ c.if-frame_code-seq_code.true), omega arith)

pub returns-else-frame_code-seq_code : goal.returns-else-frame_code-seq_code
unfolding multiplier_of
returns-else-frame_code-seq_code c = (sym (left _ _ _ c.if-frame_code-seq_code.false), omega arith)
