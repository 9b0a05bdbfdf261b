use mathlib.Core.Path.{◌≡◌}
use Rattle.rectangles.specs.Rectangles.{rising}
use Rattle.rectangles.proofs.never_falls.Given as goal

abbrev pub invariant-loop-i : goal.invariant-loop-i
invariant-loop-i l = l.good ≡ rising l.starts l.i
