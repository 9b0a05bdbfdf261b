use mathlib.Core.Path.{sym, ◌∙◌}
use Rattle.getbits.proofs.Chain.{through}
use Rattle.seq_blocks.specs.Blocks.{read_blocks}
use Rattle.seq_blocks.proofs.read_blocks.Goals as goal

pub returns : goal.returns
unfolding read_blocks
returns c =
    sym (through _ _ c.read_partition-partition.ensures
    ∙ through _ _ c.read_segmentation-segmentation.ensures
    ∙ through _ _ c.read_intra-intra.ensures)
