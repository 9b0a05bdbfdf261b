use mathlib.Core.Path.{sym, ◌∙◌}
use Rattle.getbits.proofs.Chain.{through}
use Rattle.seq_blocks.specs.Blocks.{read_segmentation}
use Rattle.seq_blocks.proofs.read_segmentation.Goals as goal

pub returns : goal.returns
unfolding read_segmentation
returns c =
    sym (through _ _ c.get_flag-ext.ensures
    ∙ through _ _ c.get_flag-present.ensures
    ∙ through _ _ c.flag_if-adaptive.ensures
    ∙ through _ _ c.seg_info_if-d.ensures)
