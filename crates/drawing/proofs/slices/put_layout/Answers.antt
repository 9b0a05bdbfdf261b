use mathlib.Core.Path.{◌≡◌}
use Prim.Native.Nat.{◌+◌, ◌*◌}
use native.Mathlib.Omega.{arith}
use Rattle.drawing.proofs.Products.{drawn, rows_before}
use Rattle.drawing.specs.Drawing.{layout_text}
use Rattle.drawing.specs.Picture.{tile_text, tiles_text}
use Rattle.drawing.specs.View.{rect_of}
use Rattle.rectangles.proofs.Each.{each_more}
use Rattle.rectangles.specs.Rectangles.{each}
use Rattle.text.proofs.Placed.{none, also, within}
use Rattle.text.specs.Text.{word}
use Rattle.drawing.proofs.slices.put_layout.Goals as goal

pub loop-j-init : goal.loop-j-init
unfolding each
loop-j-init c = none _ _

pub put_row-next-requires : goal.put_row-next-requires
put_row-next-requires c = (c.requires.0, c.requires.1, omega (arith, c.requires.2), omega (arith, c.requires.3, rows_before c.args.cols c.loop-j-test.true))

pub loop-j-preserved : goal.loop-j-preserved
loop-j-preserved c =
    let a = c.args in
    rw (← each_more (λ y. each a.cols λ x. tile_text a.v x y (y * a.cols + x) (rect_of a.xs.now a.cols x y)) c.loop-j.j)
    (within (omega arith) (also c.loop-j.invariant c.put_row-next.ensures))

pub overflow_mul-v : goal.overflow_mul-v
overflow_mul-v c = omega (arith, drawn c.args.v.x c.from.result c.requires.0.across (omega arith))

pub overflow_mul-v-2 : goal.overflow_mul-v-2
overflow_mul-v-2 c = omega (arith, drawn c.args.v.y c.from-2.result c.requires.0.down (omega arith))

pub overflow_mul-v-3 : goal.overflow_mul-v-3
overflow_mul-v-3 c = omega (arith, c.requires.0.unit)

pub returns : goal.returns
unfolding layout_text tiles_text word
returns c =
    let e : c.loop-j.j ≡ c.args.rows = omega arith in
    let tiles = rw e at c.loop-j.invariant in
    within (omega (arith, c.requires.2)) (also (also c.put_marked-next.ensures tiles) (rw (c.from.ensures, c.from-2.ensures) at c.put_marked.ensures))
