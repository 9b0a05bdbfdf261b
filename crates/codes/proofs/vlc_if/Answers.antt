use mathlib.Core.Path.{refl}
use Rattle.codes.specs.Codes.{vlc_if}
use Rattle.codes.proofs.vlc_if.Goals as goal

pub returns-then-cond : goal.returns-then-cond
unfolding vlc_if
returns-then-cond c = rw c.if-cond.true c.get_vlc.ensures

pub returns-else-cond : goal.returns-else-cond
unfolding vlc_if
returns-else-cond c = rw c.if-cond.false refl
