use mathlib.Core.Path.{sym, ◌∙◌}
use native.Mathlib.Omega.{arith}
use Rattle.getbits.proofs.Chain.{taken, left}
use Rattle.seq_inter.proofs.ref_frames.Goals as goal

pub returns-then-sent : goal.returns-then-sent
returns-then-sent c = (sym (left _ _ _ c.if-reduced.false ∙ taken _ _ _ c.if-sent.true), omega arith, omega arith)
