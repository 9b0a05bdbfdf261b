use mathlib.Core.Path.{sym, ◌∙◌}
use Rattle.getbits.proofs.Chain.{through}
use Rattle.seq_picture.specs.Level.{read_level}
use Rattle.seq_picture.proofs.read_level.Goals as goal

pub returns : goal.returns
unfolding read_level
returns c =
    sym (through _ _ c.get_flag-reduced.ensures
    ∙ through _ _ c.get_small-level.ensures.is
    ∙ through _ _ c.small_if-tier.ensures.is
    ∙ through _ _ c.get_vlc-index.ensures)
