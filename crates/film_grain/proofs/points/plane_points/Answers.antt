use mathlib.Core.Path.{sym, ◌∙◌}
use borrow.Author.Tests.{lt-ltb, le-ltb}
use Rattle.getbits.proofs.Chain.{taken, left}
use Rattle.film_grain.proofs.points.plane_points.Goals as goal

pub returns-then-w-gt14 : goal.returns-then-w-gt14
returns-then-w-gt14 c =
    rw c.no_points.ensures (sym (c.point_widths-w.ensures.p_value ∙ taken _ _ _ (lt-ltb 14 c.point_widths-w.result.num_points c.if-w-gt14.true)))

pub returns : goal.returns
returns c =
    c.read_points.ensures ∙ sym (c.point_widths-w.ensures.p_value ∙ left _ _ _ (le-ltb 14 c.point_widths-w.result.num_points c.if-w-gt14.false))
