use Prim.Native.Nat.{◌+◌, ◌*◌}
use native.Mathlib.Omega.{arith}
use borrow.Author.Rules.{rules}
use Rattle.drawing.proofs.Products.{before}
use Rattle.drawing.specs.Picture.{tile_text}
use Rattle.drawing.specs.View.{rect_of}
use Rattle.rectangles.proofs.Each.{each_more}
use Rattle.rectangles.specs.Rectangles.{each}
use Rattle.text.proofs.Placed.{none, also, printed, within}
use Rattle.drawing.proofs.slices.put_row.Goals as goal

pub loop-i-init : goal.loop-i-init
unfolding each
loop-i-init c = none _ _

pub overflow_mul-k : goal.overflow_mul-k
overflow_mul-k c = omega (arith, before c.requires.2 c.requires.1)

pub overflow_add-k : goal.overflow_add-k
overflow_add-k c = omega (arith, before c.requires.2 c.requires.1, c.requires.1)

pub overflow_mul-k-in-loop-i : goal.overflow_mul-k-in-loop-i
overflow_mul-k-in-loop-i c = omega (arith, before c.requires.2 c.requires.1, c.requires.1)

pub rect_at-requires : goal.rect_at-requires
rect_at-requires c = omega (arith, c.requires.3, c.loop-i-test.true)

pub put_tile-requires : goal.put_tile-requires
put_tile-requires c = (search rules, (c.requires.0, omega (arith, c.requires.1, c.loop-i-test.true), c.requires.2))

pub loop-i-preserved : goal.loop-i-preserved
loop-i-preserved c =
    let a = c.args in
    let p = rw c.rect_at.ensures at c.put_tile.ensures in
    rw (← each_more (λ k. tile_text a.v k a.j (a.j * a.cols + k) (rect_of a.xs.now a.cols k a.j)) c.loop-i.i)
    (within (omega arith) (also c.loop-i.invariant (printed c.new-tile.ensures p.text p.size c.as_slice.ensures c.put_word-next.ensures)))
