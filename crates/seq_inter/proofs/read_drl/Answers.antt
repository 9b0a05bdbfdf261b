use mathlib.Core.Path.{sym, ◌∙◌}
use Rattle.getbits.proofs.Chain.{through}
use Rattle.seq_inter.specs.Inter.{read_drl}
use Rattle.seq_inter.proofs.read_drl.Goals as goal

pub returns : goal.returns
unfolding read_drl
returns c =
    sym (through _ _ c.small_if-lt_bits.ensures.is
    ∙ through _ _ c.count_if-drl_bits.ensures
    ∙ through _ _ c.flag_if-frame_drl.ensures
    ∙ through _ _ c.count_if-bvp_bits.ensures
    ∙ through _ _ c.get_flag-max_bvp.ensures
    ∙ through _ _ c.small_if-same_ref.ensures.is)
