use mathlib.Core.Path.{sym, ◌∙◌}
use Rattle.getbits.proofs.Chain.{taken, left}
use Rattle.tile_info.proofs.old_starts.Goals as goal

pub returns-then-needed : goal.returns-then-needed
returns-then-needed c = c.starts_in.ensures ∙ sym (taken _ _ _ c.if-needed.true)

pub returns : goal.returns
returns c = sym (left _ _ _ c.if-needed.false)
