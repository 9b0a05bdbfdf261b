use mathlib.Core.Path.{refl}
use Rattle.tile_layout.specs.Limits.{in_domain}
use Rattle.tile_layout.proofs.in_domain.Goals as goal

pub returns : goal.returns
unfolding in_domain
returns c =
    rw c.is_pair.ensures (rw c.is_size-2.ensures (rw c.is_size.ensures refl))
