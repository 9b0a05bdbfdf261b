use mathlib.Core.Path.{sym}
use Rattle.getbits.proofs.Chain.{left}
use Rattle.seq_inter.proofs.order_hint_bits.Goals as goal

pub returns-else-reduced : goal.returns-else-reduced
returns-else-reduced c = sym (left _ _ _ c.if-reduced.false)
