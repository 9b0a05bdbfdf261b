use mathlib.Core.Path.{sym, ◌∙◌}
use Rattle.getbits.proofs.Chain.{taken, left}
use Rattle.tile_limit.specs.Within.{tiles_within}
use Rattle.tile_limit.proofs.tiles_within.Goals as goal

pub returns-then-is_too_many : goal.returns-then-is_too_many
unfolding tiles_within
returns-then-is_too_many c = sym (taken _ _ _ (sym c.is_too_many.ensures ∙ c.if-is_too_many.true))

pub returns : goal.returns
unfolding tiles_within
returns c = sym (left _ _ _ (sym c.is_too_many.ensures ∙ c.if-is_too_many.false))
