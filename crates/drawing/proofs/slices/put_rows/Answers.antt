use mathlib.Core.Path.{◌≡◌, ap}
use Prim.Native.Nat.{ℕ, ◌+◌, ◌*◌}
use native.Mathlib.Omega.{arith}
use borrow.Author.Rules.{rules}
use lib.ListN.{get_or, take, drop}
use Rattle.drawing.proofs.Products.{first_of}
use Rattle.drawing.specs.Drawing.{rows_text}
use Rattle.drawing.specs.Picture.{left_text}
use Rattle.drawing.specs.View.{row_of}
use Rattle.rectangles.proofs.Each.{each_more, each_same}
use Rattle.rectangles.specs.Rectangles.{each}
use Rattle.text.proofs.Placed.{none, also, printed, within}
use Rattle.drawing.proofs.slices.put_rows.Goals as goal

pub loop-j-init : goal.loop-j-init
unfolding each
loop-j-init c = none _ _

pub overflow_mul-j : goal.overflow_mul-j
overflow_mul-j c = omega (arith, (first_of _ _ _ _ c.requires.1 c.requires.2 c.requires.3 c.requires.4 c.loop-j-test.true).1)

pub overflow_mul-j-in-loop-j : goal.overflow_mul-j-in-loop-j
overflow_mul-j-in-loop-j c = omega (arith, (first_of _ _ _ _ c.requires.1 c.requires.2 c.requires.3 c.requires.4 c.loop-j-test.true).1)

pub rect_at-requires : goal.rect_at-requires
rect_at-requires c = (first_of _ _ _ _ c.requires.1 c.requires.2 c.requires.3 c.requires.4 c.loop-j-test.true).0

pub row-requires : goal.row-requires
row-requires c = (c.requires.0, omega (arith, c.requires.2, c.loop-j-test.true))

pub put_left-requires : goal.put_left-requires
put_left-requires c = (search rules, c.requires.0.unit)

pub loop-j-preserved : goal.loop-j-preserved
loop-j-preserved c =
    let a = c.args in
    let p = rw (c.start_at.ensures, c.row.ensures.0, c.rect_at.ensures) at c.put_left.ensures in
    rw (← each_more (λ k. left_text a.v.unit (row_of a.v k (take 4 (drop (4 * (k * a.cols)) a.xs.now))) (get_or a.starts.now k 0)) c.loop-j.j)
    (within (omega arith) (also c.loop-j.invariant (printed c.new-start.ensures p.text p.size c.as_slice.ensures c.put_word-next.ensures)))

pub put_left-requires-2 : goal.put_left-requires-2
put_left-requires-2 c = (search rules, c.requires.0.unit)

pub returns : goal.returns
unfolding rows_text
returns c =
    let a = c.args in
    let first = each_same (λ j. left_text a.v.unit (row_of a.v j (take 4 (drop (4 * (j * a.cols + 0)) a.xs.now))) (get_or a.starts.now j 0)) _ a.rows
    (λ j _. let e : j * a.cols + 0 ≡ j * a.cols = omega arith in ap (λ (k : ℕ). left_text a.v.unit (row_of a.v j (take 4 (drop (4 * k) a.xs.now))) (get_or a.starts.now j 0)) e) in
    let e : c.loop-j.j ≡ a.rows = omega arith in
    let p = rw e at c.loop-j.invariant in
    let q = rw c.start_at-2.ensures at c.put_left-2.ensures in
    rw first (within (omega (arith, c.requires.2)) (also p (printed c.new-last.ensures q.text q.size c.as_slice-2.ensures c.put_word.ensures)))
