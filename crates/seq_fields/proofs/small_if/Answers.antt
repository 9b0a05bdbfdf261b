use mathlib.Core.Path.{refl}
use lib.Pow.{pow_pos}
use Rattle.seq_fields.specs.Fields.{small_if}
use Rattle.seq_fields.proofs.small_if.Goals as goal

pub returns-then-cond : goal.returns-then-cond
unfolding small_if
returns-then-cond c =
    record { is = rw c.if-cond.true c.get_small.ensures.is; below = c.get_small.ensures.below }

pub returns-else-cond : goal.returns-else-cond
unfolding small_if
returns-else-cond c =
    record { is = rw c.if-cond.false refl; below = pow_pos _ }
