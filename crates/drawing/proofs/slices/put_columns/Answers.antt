use mathlib.Core.Path.{◌≡◌, ap}
use Prim.Native.Nat.{ℕ, ◌+◌, ◌*◌}
use native.Mathlib.Omega.{arith}
use borrow.Author.Rules.{rules}
use lib.ListN.{get_or, take, drop}
use Rattle.drawing.specs.Drawing.{columns_text}
use Rattle.drawing.specs.Picture.{above_text}
use Rattle.drawing.specs.View.{column_of}
use Rattle.rectangles.proofs.Each.{each_more, each_same}
use Rattle.rectangles.specs.Rectangles.{each}
use Rattle.text.proofs.Placed.{none, also, printed, within}
use Rattle.drawing.proofs.slices.put_columns.Goals as goal

pub loop-i-init : goal.loop-i-init
unfolding each
loop-i-init c = none _ _

pub overflow_mul-i : goal.overflow_mul-i
overflow_mul-i c = omega (arith, c.requires.1)

pub rect_at-requires : goal.rect_at-requires
rect_at-requires c = omega (arith, c.requires.2, c.loop-i-test.true)

pub column-requires : goal.column-requires
column-requires c = (c.requires.0, omega (arith, c.requires.1, c.loop-i-test.true))

pub put_above-requires : goal.put_above-requires
put_above-requires c = (search rules, c.requires.0.unit)

pub loop-i-preserved : goal.loop-i-preserved
loop-i-preserved c =
    let a = c.args in
    let p = rw (c.start_at.ensures, c.column.ensures.0, c.rect_at.ensures) at c.put_above.ensures in
    rw (← each_more (λ k. above_text a.v.unit (column_of a.v k (take 4 (drop (4 * k) a.xs.now))) (get_or a.starts.now k 0)) c.loop-i.i)
    (within (omega arith) (also c.loop-i.invariant (printed c.new-start.ensures p.text p.size c.as_slice.ensures c.put_word-next.ensures)))

pub put_above-requires-2 : goal.put_above-requires-2
put_above-requires-2 c = (search rules, c.requires.0.unit)

pub returns : goal.returns
unfolding columns_text
returns c =
    let a = c.args in
    let first = each_same (λ i. above_text a.v.unit (column_of a.v i (take 4 (drop (4 * (0 * a.cols + i)) a.xs.now))) (get_or a.starts.now i 0)) _ a.cols
    (λ i _. let e : 0 * a.cols + i ≡ i = omega arith in ap (λ (k : ℕ). above_text a.v.unit (column_of a.v i (take 4 (drop (4 * k) a.xs.now))) (get_or a.starts.now i 0)) e) in
    let e : c.loop-i.i ≡ a.cols = omega arith in
    let p = rw e at c.loop-i.invariant in
    let q = rw c.start_at-2.ensures at c.put_above-2.ensures in
    rw first (within (omega (arith, c.requires.1)) (also p (printed c.new-last.ensures q.text q.size c.as_slice-2.ensures c.put_word.ensures)))
