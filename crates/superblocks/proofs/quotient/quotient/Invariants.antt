use Rattle.std.proofs.Common.{◌≤◌}
use Rattle.superblocks.proofs.Division.{Settled}
use Rattle.superblocks.proofs.quotient.quotient.Given as goal

abbrev pub invariant-loop-k : goal.invariant-loop-k
invariant-loop-k l = (l.k ≤ l.bits) × Settled l.n l.d l.k l.q l.left
