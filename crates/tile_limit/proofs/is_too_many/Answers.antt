use Rattle.tile_limit.proofs.is_too_many.Goals as goal

pub returns : goal.returns
returns c = rw (c.is_refusal.ensures, c.is_over.ensures)
