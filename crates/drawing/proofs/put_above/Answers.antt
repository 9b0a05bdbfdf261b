use Prim.Native.Nat.{◌*◌}
use native.Mathlib.Omega.{arith}
use borrow.Author.Tests.{lt-ltb, le-ltb}
use Rattle.drawing.specs.Picture.{above_text}
use Rattle.text.specs.Text.{word}
use Rattle.drawing.proofs.put_above.Goals as goal

pub returns-then-s-unit : goal.returns-then-s-unit
unfolding above_text word
returns-then-s-unit g c =
    let a = c.args in
    rw (lt-ltb a.s.size (68 * a.unit) (omega arith), ← c.from.ensures) (record { text = c.put_marked.ensures.text; size = omega (arith, c.put_marked.ensures.size) })

pub returns : goal.returns
unfolding above_text word
returns g c =
    let a = c.args in
    rw (le-ltb a.s.size (68 * a.unit) (omega arith), ← c.from-2.ensures) (record { text = c.put_marked-2.ensures.text; size = omega (arith, c.put_marked-2.ensures.size) })
