use mathlib.Core.Path.{sym}
use native.Mathlib.Omega.{arith}
use Rattle.drawing.specs.Picture.{lines_text}
use Rattle.rectangles.proofs.Each.{each_more}
use Rattle.rectangles.specs.Rectangles.{each}
use Rattle.text.proofs.Puts.{put-nil}
use Rattle.text.proofs.Chains.{also, sizes}
use Rattle.drawing.proofs.put_all_lines.Goals as goal

pub loop-i-init : goal.loop-i-init
unfolding each
loop-i-init g c = record { text = sym (put-nil _ _); size = omega arith }

pub loop-i-preserved : goal.loop-i-preserved
loop-i-preserved g c =
    let a = c.args in
    let kept = c.loop-i.invariant in
    let p = c.put_lines.ensures in
    let more = each_more (λ k. lines_text a.v a.side k) c.loop-i.i in
    record { text = rw (← more) (also _ _ _ _ kept.text p.text); size = rw (← more) (omega (arith, sizes _ _ kept.size p.size)) }
