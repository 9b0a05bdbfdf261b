use mathlib.Core.Path.{sym, ◌∙◌}
use Rattle.getbits.proofs.Chain.{through}
use Rattle.seq_inter.specs.Inter.{read_mv}
use Rattle.seq_inter.proofs.read_mv.Goals as goal

pub returns : goal.returns
unfolding read_mv
returns c =
    sym (through _ _ c.small_if-opfl.ensures.is
    ∙ through _ _ c.flag_if-refine.ensures
    ∙ through _ _ c.flag_if-tip_refine.ensures
    ∙ through _ _ c.flag_if-bru.ensures
    ∙ through _ _ c.flag_if-adaptive.ensures
    ∙ through _ _ c.flag_if-sign_derive.ensures
    ∙ through _ _ c.flag_if-flex_res.ensures
    ∙ through _ _ c.flag_if-global.ensures
    ∙ through _ _ c.flag_if-short_refresh.ensures)
