use Rattle.std.proofs.Common.{sym, ◌∙◌}
use Rattle.getbits.proofs.Chain.{through}
use Rattle.seq_residual.specs.Residual.{read_transform}
use Rattle.seq_residual.proofs.read_transform.Goals as goal

pub returns : goal.returns
unfolding read_transform
returns c =
    sym (through _ _ c.get_flag-fsc.ensures
    ∙ through _ _ c.flag_if-idtx.ensures
    ∙ through _ _ c.get_flag-ist0.ensures
    ∙ through _ _ c.get_flag-ist1.ensures
    ∙ through _ _ c.flag_if-dct_only.ensures
    ∙ through _ _ c.flag_if-inter_ddt.ensures
    ∙ through _ _ c.get_flag-part_set.ensures
    ∙ through _ _ c.flag_if-cctx.ensures)
