use native.Mathlib.Omega.{arith}
use Rattle.drawing.proofs.Products.{drawn}
use Rattle.drawing.specs.Drawing.{layout_text}
use Rattle.drawing.specs.Picture.{tiles_text}
use Rattle.text.proofs.Chains.{also, sizes}
use Rattle.text.specs.Text.{word}
use Rattle.drawing.proofs.put_layout.Goals as goal

pub overflow_mul-v : goal.overflow_mul-v
overflow_mul-v g c = omega (arith, drawn c.args.v.x c.from.result c.requires.0.across (omega arith))

pub overflow_mul-v-2 : goal.overflow_mul-v-2
overflow_mul-v-2 g c = omega (arith, drawn c.args.v.y c.from-2.result c.requires.0.down (omega arith))

pub overflow_mul-v-3 : goal.overflow_mul-v-3
overflow_mul-v-3 g c = omega (arith, c.requires.0.unit)

pub returns : goal.returns
unfolding layout_text tiles_text word
returns g c =
    let p = c.put_marked.ensures in
    let q = c.put_tiles.ensures in
    let r = rw (c.from.ensures, c.from-2.ensures) at c.put_marked-2.ensures in
    record { text = also _ _ _ _ (also _ _ _ _ p.text q.text) r.text; size = omega (arith, sizes _ _ (sizes _ _ p.size q.size) r.size) }
