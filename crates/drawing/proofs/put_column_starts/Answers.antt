use mathlib.Core.Path.{sym}
use Prim.Native.Nat.{◌*◌}
use native.Mathlib.Omega.{arith}
use borrow.Author.Rules.{rules}
use lib.ListN.{get_or, take, drop}
use Rattle.drawing.specs.Picture.{above_text}
use Rattle.drawing.specs.View.{column_of}
use Rattle.rectangles.proofs.Each.{each_more}
use Rattle.rectangles.specs.Rectangles.{each}
use Rattle.text.proofs.Puts.{put-nil}
use Rattle.text.proofs.Chains.{also, sizes}
use Rattle.drawing.proofs.put_column_starts.Goals as goal

pub loop-i-init : goal.loop-i-init
unfolding each
loop-i-init g c = record { text = sym (put-nil _ _); size = omega arith }

pub overflow_mul-i : goal.overflow_mul-i
overflow_mul-i g c = omega (arith, c.requires.1)

pub rect_at-requires : goal.rect_at-requires
rect_at-requires g c = omega (arith, c.requires.2, c.loop-i-test.true)

pub column-requires : goal.column-requires
column-requires g c = (c.requires.0, omega (arith, c.requires.1, c.loop-i-test.true))

pub put_above-requires : goal.put_above-requires
put_above-requires g c = (search rules, c.requires.0.unit)

pub loop-i-preserved : goal.loop-i-preserved
loop-i-preserved g c =
    let a = c.args in
    let kept = c.loop-i.invariant in
    let p = rw (c.start_at.ensures, c.column.ensures.0, c.rect_at.ensures) at c.put_above.ensures in
    let more = each_more (λ k. above_text a.v.unit (column_of a.v k (take 4 (drop (4 * k) a.xs.now))) (get_or a.starts.now k 0)) c.loop-i.i in
    record { text = rw (← more) (also _ _ _ _ kept.text p.text); size = rw (← more) (omega (arith, sizes _ _ kept.size p.size)) }
