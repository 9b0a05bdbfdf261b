use mathlib.Core.Path.{refl}
use native.Mathlib.Omega.{arith}
use Rattle.drawing.specs.View.{middle_of}
use Rattle.drawing.proofs.middle.Goals as goal

pub returns : goal.returns
unfolding middle_of
returns c = rw (← c.min-size.ensures) (refl, omega (arith, c.requires.size))
