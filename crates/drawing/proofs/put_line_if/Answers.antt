use mathlib.Core.Path.{sym}
use native.Mathlib.Omega.{arith}
use Rattle.text.proofs.Puts.{put-nil}
use Rattle.text.specs.Text.{word}
use Rattle.drawing.proofs.put_line_if.Goals as goal

pub returns-then-cond : goal.returns-then-cond
unfolding word
returns-then-cond g c = rw c.if-cond.true (record { text = c.put_marked.ensures.text; size = omega (arith, c.put_marked.ensures.size) })

pub returns-else-cond : goal.returns-else-cond
returns-else-cond g c = rw c.if-cond.false (record { text = sym (put-nil _ _); size = omega arith })
