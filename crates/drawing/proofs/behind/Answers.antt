use mathlib.Core.Path.{refl}
use native.Mathlib.Omega.{arith}
use Rattle.drawing.specs.View.{behind_of}
use Rattle.drawing.proofs.behind.Goals as goal

pub returns : goal.returns
unfolding behind_of
returns c = (refl, omega arith)
