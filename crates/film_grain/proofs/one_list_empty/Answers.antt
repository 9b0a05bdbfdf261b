use Rattle.film_grain.proofs.one_list_empty.Goals as goal

pub returns : goal.returns
returns c =
    rw (c.is_i420.ensures, c.has_points-v.ensures, c.has_points-u.ensures)
