use Rattle.film_grain.proofs.refuse_grain.Goals as goal

pub returns : goal.returns
returns c = simp c.no_film_grain-fgd.ensures
