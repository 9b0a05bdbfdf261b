use mathlib.Core.Path.{refl}
use Rattle.getbits.specs.Bits.{flag_if}
use Rattle.getbits.proofs.flag_if.Goals as goal

pub returns-then-cond : goal.returns-then-cond
unfolding flag_if
returns-then-cond c = rw c.if-cond.true c.get_flag.ensures

pub returns-else-cond : goal.returns-else-cond
unfolding flag_if
returns-else-cond c = rw c.if-cond.false refl
