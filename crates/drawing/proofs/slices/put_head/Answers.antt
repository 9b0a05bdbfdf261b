use native.Mathlib.Omega.{arith}
use Rattle.drawing.proofs.Products.{drawn}
use Rattle.drawing.specs.Drawing.{head_text}
use Rattle.text.proofs.Placed.{also, within}
use Rattle.text.specs.Text.{word}
use Rattle.drawing.proofs.slices.put_head.Goals as goal

pub overflow_mul-v : goal.overflow_mul-v
overflow_mul-v c = omega (arith, drawn c.args.v.y c.from.result c.requires.0.down (omega arith))

pub overflow_add-height : goal.overflow_add-height
overflow_add-height c = omega (arith, drawn c.args.v.y c.from.result c.requires.0.down (omega arith), c.max-2.ensures, c.requires.0.unit, c.requires.2)

pub returns : goal.returns
unfolding head_text word
returns c =
    rw (← c.from.ensures, ← c.max.ensures, ← c.max-2.ensures)
    (within (omega arith) (also (also (also c.put_marked-first.ensures c.put_word-second.ensures) c.put_marked-third.ensures) c.put_word.ensures))
