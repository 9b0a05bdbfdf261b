use native.Mathlib.Omega.{arith}
use Rattle.drawing.specs.Picture.{left_text}
use Rattle.text.specs.Text.{word}
use Rattle.drawing.proofs.put_left.Goals as goal

pub returns : goal.returns
unfolding left_text word
returns g c = rw (← c.from.ensures) (record { text = c.put_marked.ensures.text; size = omega (arith, c.put_marked.ensures.size) })
