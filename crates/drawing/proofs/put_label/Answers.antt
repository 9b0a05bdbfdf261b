use Prim.Native.Nat.{◌*◌}
use native.Mathlib.Omega.{arith}
use borrow.Author.Tests.{le-leb, lt-leb}
use Rattle.drawing.specs.Picture.{label_text}
use Rattle.text.specs.Text.{word}
use Rattle.drawing.proofs.put_label.Goals as goal

pub returns-then-down-across : goal.returns-then-down-across
unfolding label_text word
returns-then-down-across g c =
    let a = c.args in
    rw (le-leb (4 * a.down.size) a.across.size (omega arith), ← c.from-width.ensures, ← c.from-height.ensures) (record { text = c.put_marked.ensures.text; size = omega (arith, c.put_marked.ensures.size) })

pub returns-then-across-down : goal.returns-then-across-down
unfolding label_text word
returns-then-across-down g c =
    let a = c.args in
    rw (lt-leb (4 * a.down.size) a.across.size (omega arith), le-leb (3 * a.across.size) a.down.size (omega arith), ← c.from-width.ensures, ← c.from-height.ensures)
    (record { text = c.put_marked-then-across-down.ensures.text; size = omega (arith, c.put_marked-then-across-down.ensures.size) })

pub returns : goal.returns
unfolding label_text word
returns g c =
    let a = c.args in
    rw (lt-leb (4 * a.down.size) a.across.size (omega arith), lt-leb (3 * a.across.size) a.down.size (omega arith), ← c.label_width.ensures, ← c.from-width.ensures, ← c.from-height.ensures)
    (record { text = c.put_marked-2.ensures.text; size = omega (arith, c.put_marked-2.ensures.size) })
