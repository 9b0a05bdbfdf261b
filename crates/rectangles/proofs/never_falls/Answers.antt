use mathlib.Core.Path.{◌≡◌, ap, ◌∙◌}
use Prim.Native.Nat.{ℕ}
use native.Mathlib.Omega.{arith}
use lib.Dec.{leb}
use Rattle.rectangles.proofs.Rising.{rising_more}
use Rattle.rectangles.specs.Rectangles.{rising}
use Rattle.rectangles.proofs.never_falls.Goals as goal

pub loop-i-init : goal.loop-i-init
unfolding rising
loop-i-init c = ap (λ (x : ℕ). leb x 1024) c.start_at-good.ensures

pub loop-i-preserved : goal.loop-i-preserved
loop-i-preserved c =
    rising_more c.args.starts.now c.loop-i.i c.loop-i.invariant c.start_at-start.ensures c.start_at-next.ensures

pub returns : goal.returns
returns c =
    let l = c.loop-i in
    let e : l.i ≡ c.args.n = omega arith in
    l.invariant ∙ ap (rising _) e
