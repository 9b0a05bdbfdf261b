use Rattle.std.proofs.Common.{ℕ, eqb, ap}
use Rattle.superblocks.proofs.Pair.doubles.Goals as goal

pub returns : goal.returns
returns c = ap (λ (m : ℕ). eqb m 2) c.multiplier_of.ensures.0
