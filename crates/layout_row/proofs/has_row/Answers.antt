use mathlib.Core.Path.{refl}
use Rattle.layout_row.proofs.has_row.Goals as goal

pub returns : goal.returns
returns c = rw c.in_domain.ensures refl
