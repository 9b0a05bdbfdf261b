use mathlib.Core.Path.{sym}
use Prim.Native.Nat.{◌*◌}
use native.Mathlib.Omega.{arith}
use borrow.Author.Rules.{rules}
use lib.ListN.{get_or, take, drop}
use Rattle.drawing.proofs.Products.{first_of}
use Rattle.drawing.specs.Picture.{left_text}
use Rattle.drawing.specs.View.{row_of}
use Rattle.rectangles.proofs.Each.{each_more}
use Rattle.rectangles.specs.Rectangles.{each}
use Rattle.text.proofs.Puts.{put-nil}
use Rattle.text.proofs.Chains.{also, sizes}
use Rattle.drawing.proofs.put_row_starts.Goals as goal

pub loop-j-init : goal.loop-j-init
unfolding each
loop-j-init g c = record { text = sym (put-nil _ _); size = omega arith }

pub overflow_mul-j : goal.overflow_mul-j
overflow_mul-j g c = omega (arith, (first_of _ _ _ _ c.requires.1 c.requires.2 c.requires.3 c.requires.4 c.loop-j-test.true).1)

pub overflow_mul-j-in-loop-j : goal.overflow_mul-j-in-loop-j
overflow_mul-j-in-loop-j g c = omega (arith, (first_of _ _ _ _ c.requires.1 c.requires.2 c.requires.3 c.requires.4 c.loop-j-test.true).1)

pub rect_at-requires : goal.rect_at-requires
rect_at-requires g c = (first_of _ _ _ _ c.requires.1 c.requires.2 c.requires.3 c.requires.4 c.loop-j-test.true).0

pub row-requires : goal.row-requires
row-requires g c = (c.requires.0, omega (arith, c.requires.2, c.loop-j-test.true))

pub put_left-requires : goal.put_left-requires
put_left-requires g c = (search rules, c.requires.0.unit)

pub loop-j-preserved : goal.loop-j-preserved
loop-j-preserved g c =
    let a = c.args in
    let kept = c.loop-j.invariant in
    let p = rw (c.start_at.ensures, c.row.ensures.0, c.rect_at.ensures) at c.put_left.ensures in
    let more = each_more (λ k. left_text a.v.unit (row_of a.v k (take 4 (drop (4 * (k * a.cols)) a.xs.now))) (get_or a.starts.now k 0)) c.loop-j.j in
    record { text = rw (← more) (also _ _ _ _ kept.text p.text); size = rw (← more) (omega (arith, sizes _ _ kept.size p.size)) }
