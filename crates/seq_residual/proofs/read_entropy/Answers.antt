use Rattle.std.proofs.Common.{sym, ◌∙◌}
use Rattle.getbits.proofs.Chain.{through}
use Rattle.seq_residual.specs.Residual.{read_entropy}
use Rattle.seq_residual.proofs.read_entropy.Goals as goal

pub returns : goal.returns
unfolding read_entropy
returns c =
    sym (through _ _ c.get_flag-tcq.ensures
    ∙ through _ _ c.flag_if-adaptive.ensures
    ∙ through _ _ c.flag_if-parity.ensures
    ∙ through _ _ c.flag_if-avg.ensures
    ∙ through _ _ c.flag_if-avg_type.ensures
    ∙ sym (simp (c.adaptive_or-tcq.ensures, c.bit-avg_cdf_type.ensures.0)))
