use Rattle.drawing.specs.View.{row_of}
use Rattle.drawing.proofs.row.Goals as goal

pub returns : goal.returns
unfolding row_of
returns c = c.span_of.ensures
