use mathlib.Core.Path.{sym, ◌∙◌}
use Rattle.getbits.proofs.Chain.{through}
use Rattle.seq_inter.specs.Refs.{read_motion}
use Rattle.seq_inter.proofs.read_motion.Goals as goal

pub returns : goal.returns
unfolding read_motion
returns c =
    sym (through _ _ c.flag_if-m1.ensures
    ∙ through _ _ c.flag_if-m2.ensures
    ∙ through _ _ c.flag_if-m3.ensures
    ∙ through _ _ c.flag_if-m4.ensures
    ∙ through _ _ c.flag_if-frame_modes.ensures
    ∙ through _ _ c.flag_if-six_param.ensures
    ∙ through _ _ c.flag_if-masked.ensures
    ∙ through _ _ c.flag_if-mvs.ensures
    ∙ through _ _ c.small_if-mvs_mode.ensures.is
    ∙ through _ _ c.small_if-hint_bits.ensures.is
    ∙ sym (simp (c.motion_modes.ensures, c.order_hint_bits.ensures)))
