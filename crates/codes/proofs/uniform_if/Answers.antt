use mathlib.Core.Path.{refl}
use Rattle.codes.specs.Codes.{uniform_if}
use Rattle.codes.proofs.uniform_if.Goals as goal

pub returns-then-cond : goal.returns-then-cond
unfolding uniform_if
returns-then-cond c = rw c.if-cond.true c.get_uniform.ensures

pub returns-else-cond : goal.returns-else-cond
unfolding uniform_if
returns-else-cond c = rw c.if-cond.false refl
