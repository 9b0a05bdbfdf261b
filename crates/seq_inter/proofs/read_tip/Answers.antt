use mathlib.Core.Path.{sym, ◌∙◌}
use Rattle.getbits.proofs.Chain.{through}
use Rattle.seq_inter.specs.Inter.{read_tip}
use Rattle.seq_inter.proofs.read_tip.Goals as goal

pub returns : goal.returns
unfolding read_tip
returns c =
    sym (through _ _ c.flag_if-tip.ensures
    ∙ through _ _ c.flag_if-ignored.ensures
    ∙ through _ _ c.flag_if-hole_fill.ensures
    ∙ through _ _ c.flag_if-mv_traj.ensures
    ∙ through _ _ c.get_flag-bawp.ensures
    ∙ through _ _ c.flag_if-cwp.ensures
    ∙ through _ _ c.flag_if-imp_msk_bld.ensures
    ∙ through _ _ c.flag_if-db_sub_pu.ensures
    ∙ through _ _ c.flag_if-explicit_qp.ensures)
