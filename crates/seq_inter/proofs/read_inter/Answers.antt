use mathlib.Core.Path.{sym, ◌∙◌}
use Rattle.getbits.proofs.Chain.{through}
use Rattle.seq_inter.specs.Inter.{read_inter}
use Rattle.seq_inter.proofs.read_inter.Goals as goal

pub returns : goal.returns
unfolding read_inter
returns c =
    sym (through _ _ c.read_drl-drl.ensures
    ∙ through _ _ c.read_tip-tip.ensures
    ∙ through _ _ c.read_mv-mv.ensures
    ∙ through _ _ c.read_screen-screen.ensures)
