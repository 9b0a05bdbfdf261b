use mathlib.Core.List.{List, [], ◌∷◌}
use mathlib.Core.Path.{refl}
use Prim.Native.Nat.{ℕ}
use native.Mathlib.Omega.{arith}
use Rattle.rectangles.proofs.Rising.{steps}
use Rattle.rectangles.proofs.Each.{store_more}
use Rattle.rectangles.specs.Rectangles.{edge, reach, each}
use Rattle.rectangles.proofs.put_row.Goals as goal

pub loop-col-init : goal.loop-col-init
unfolding each
loop-col-init c = refl

pub span_of-across-requires : goal.span_of-across-requires
span_of-across-requires c =
    let w = steps c.args.starts.now c.args.cols c.loop-col.col c.requires.1 c.loop-col-test.true in
    (w.rises, w.next, c.requires.3, omega (arith, c.loop-col-test.true, c.requires.2))

pub loop-col-preserved : goal.loop-col-preserved
loop-col-preserved c =
    let a = c.args in
    -- the tile of each column
    let tile : ℕ → List ℕ = λ i. edge a.starts.now a.side a.w i ∷ a.down.begin ∷ reach a.starts.now a.side a.w i ∷ a.down.reach ∷ [] in
    let across = c.span_of-across.ensures in
    store_more tile 4 (λ _. refl) c.loop-col.col a.at _ a.out.now c.loop-col.out _ refl c.loop-col.invariant (rw (across.0, across.1) at c.put_rectangle.ensures)
