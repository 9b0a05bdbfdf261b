use mathlib.Core.Path.{sym}
use Prim.Native.Nat.{◌+◌, ◌*◌}
use native.Mathlib.Omega.{arith}
use borrow.Author.Rules.{rules}
use Rattle.drawing.proofs.Products.{rows_before}
use Rattle.drawing.specs.Picture.{tile_text}
use Rattle.drawing.specs.View.{rect_of}
use Rattle.rectangles.proofs.Each.{each_more}
use Rattle.rectangles.specs.Rectangles.{each}
use Rattle.text.proofs.Puts.{put-nil}
use Rattle.text.proofs.Chains.{also, sizes}
use Rattle.drawing.proofs.put_tiles.Goals as goal

pub loop-j-init : goal.loop-j-init
unfolding each
loop-j-init g c = record { text = sym (put-nil _ _); size = omega arith }

pub put_row-requires : goal.put_row-requires
put_row-requires g c =
    (search rules, (c.requires.0, c.requires.1, omega (arith, c.requires.2), omega (arith, c.requires.3, rows_before c.args.cols c.loop-j-test.true)))

pub loop-j-preserved : goal.loop-j-preserved
loop-j-preserved g c =
    let a = c.args in
    let kept = c.loop-j.invariant in
    let p = c.put_row.ensures in
    let more = each_more (λ y. each a.cols λ x. tile_text a.v x y (y * a.cols + x) (rect_of a.xs.now a.cols x y)) c.loop-j.j in
    record { text = rw (← more) (also _ _ _ _ kept.text p.text); size = rw (← more) (omega (arith, sizes _ _ kept.size p.size)) }
