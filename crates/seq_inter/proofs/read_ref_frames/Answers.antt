use mathlib.Core.Path.{sym, ◌∙◌}
use Rattle.getbits.proofs.Chain.{through}
use Rattle.seq_inter.specs.Refs.{read_ref_frames}
use Rattle.seq_inter.proofs.read_ref_frames.Goals as goal

pub returns : goal.returns
unfolding read_ref_frames
returns c =
    sym (through _ _ c.get_flag-bank.ensures
    ∙ through _ _ c.get_flag-off.ensures
    ∙ through _ _ c.flag_if-constrained.ensures
    ∙ through _ _ c.flag_if-explicit.ensures
    ∙ through _ _ c.flag_if-sent.ensures
    ∙ through _ _ c.small_if-count.ensures.is
    ∙ through _ _ c.ref_frames-frames.ensures.0
    ∙ sym (simp (c.drl_reorder.ensures, c.ref_frames_log2.ensures)))
