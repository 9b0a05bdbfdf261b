use Rattle.layout_row.proofs.put_log2.Goals as goal

pub returns : goal.returns
returns c = rw (c.saturating_sub.ensures, c.saturating_sub-2.ensures) at c.put_ones.ensures
