use mathlib.Core.Path.{sym}
use borrow.Author.Tests.{eq-eqb, ne_eqb}
use Rattle.getbits.proofs.Chain.{taken, left}
use Rattle.seq_blocks.proofs.filter_index.Goals as goal

pub returns-then-index-eq3 : goal.returns-then-index-eq3
returns-then-index-eq3 c = sym (taken _ _ _ (eq-eqb _ _ c.if-index-eq3.true))

pub returns-else-index-eq3 : goal.returns-else-index-eq3
returns-else-index-eq3 c = sym (left _ _ _ (ne_eqb _ _ c.if-index-eq3.false))
