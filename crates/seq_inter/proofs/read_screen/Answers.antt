use mathlib.Core.Path.{refl, sym, ◌∙◌}
use Rattle.getbits.proofs.Chain.{through}
use Rattle.seq_inter.specs.Inter.{read_screen}
use Rattle.seq_inter.proofs.read_screen.Goals as goal

pub returns : goal.returns
unfolding read_screen
returns c =
    sym (through _ _ c.flag_if-select.ensures
    ∙ through _ _ c.flag_if-on.ensures
    ∙ through _ _ refl
    ∙ through _ _ c.flag_if-mv_select.ensures
    ∙ through _ _ c.flag_if-mv_on.ensures
    ∙ sym (simp (c.adaptive_or.ensures, c.adaptive_or-2.ensures)))
