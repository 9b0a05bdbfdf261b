use mathlib.Core.Path.{refl}
use Rattle.film_grain.specs.Points.{points_if}
use Rattle.film_grain.proofs.points.points_if.Goals as goal

pub returns-then-cond : goal.returns-then-cond
unfolding points_if
returns-then-cond c = rw c.if-cond.true c.plane_points.ensures

pub returns-else-cond : goal.returns-else-cond
unfolding points_if
returns-else-cond c = rw (c.if-cond.false, c.no_points.ensures, c.requires) refl
