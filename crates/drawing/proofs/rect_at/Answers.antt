use mathlib.Core.Path.{refl}
use Rattle.rectangles.proofs.Four.{four}
use Rattle.drawing.proofs.rect_at.Goals as goal

pub returns : goal.returns
returns c = rw (four c.args.xs.now c.args.at c.requires) refl
