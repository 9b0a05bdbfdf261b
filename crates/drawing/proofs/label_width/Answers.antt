use mathlib.Core.Path.{refl}
use Rattle.drawing.specs.Picture.{label_width}
use Rattle.drawing.proofs.label_width.Goals as goal

pub returns-then-w-h : goal.returns-then-w-h
unfolding label_width
returns-then-w-h c = rw c.if-w-h.true refl

pub returns-then-w-h-2 : goal.returns-then-w-h-2
unfolding label_width
returns-then-w-h-2 c = rw (c.if-w-h.false, c.if-w-h-2.true) refl

pub returns : goal.returns
unfolding label_width
returns c = rw (c.if-w-h.false, c.if-w-h-2.false) refl
