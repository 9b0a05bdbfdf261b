use Rattle.rectangles.specs.Rectangles.{has_rectangles}
use Rattle.rectangles.proofs.has_rectangles.Goals as goal

pub returns : goal.returns
unfolding has_rectangles
returns c =
    rw (c.never_falls-across.ensures, c.never_falls-down.ensures, c.is_count.ensures, c.is_count-2.ensures, c.is_size.ensures, c.is_size-2.ensures)
