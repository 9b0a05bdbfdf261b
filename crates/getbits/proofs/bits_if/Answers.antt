use mathlib.Core.Path.{refl}
use mir.Facts.{to_z-of_z}
use Rattle.getbits.specs.Bits.{bits_if}
use Rattle.getbits.proofs.bits_if.Goals as goal

pub returns-then-cond : goal.returns-then-cond
unfolding bits_if
returns-then-cond c =
    rw c.if-cond.true (rw (to_z-of_z c.ranges.n) at c.get_bits.ensures)

pub returns-else-cond : goal.returns-else-cond
unfolding bits_if
returns-else-cond c = rw c.if-cond.false refl
