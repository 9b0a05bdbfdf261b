use mathlib.Core.Path.{sym, ◌∙◌}
use Rattle.getbits.proofs.Chain.{through}
use Rattle.seq_blocks.specs.Blocks.{read_intra}
use Rattle.seq_blocks.proofs.read_intra.Goals as goal

pub returns : goal.returns
unfolding read_intra
returns c =
    sym (through _ _ c.get_flag-dip.ensures
    ∙ through _ _ c.get_flag-edge.ensures
    ∙ through _ _ c.get_flag-mrls.ensures
    ∙ through _ _ c.get_flag-cfl.ensures
    ∙ through _ _ c.small_if-index.ensures.is
    ∙ through _ _ c.get_flag-mhccp.ensures
    ∙ through _ _ c.get_flag-ibp.ensures
    ∙ sym (simp c.filter_index-filter_index.ensures))
