use Rattle.drawing.specs.View.{column_of}
use Rattle.drawing.proofs.column.Goals as goal

pub returns : goal.returns
unfolding column_of
returns c = c.span_of.ensures
