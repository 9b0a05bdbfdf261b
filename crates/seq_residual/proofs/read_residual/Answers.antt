use Rattle.std.proofs.Common.{sym, ◌∙◌}
use Rattle.getbits.proofs.Chain.{through}
use Rattle.seq_residual.specs.Residual.{read_residual}
use Rattle.seq_residual.proofs.read_residual.Goals as goal

pub returns : goal.returns
unfolding read_residual
returns c =
    sym (through _ _ c.read_transform-transform.ensures
    ∙ through _ _ c.read_entropy-entropy.ensures
    ∙ through _ _ c.read_quant-quant.ensures)
