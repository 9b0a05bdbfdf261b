use mathlib.Core.Path.{refl}
use Prim.Native.Nat.{◌*◌}
use native.Mathlib.Omega.{arith}
use borrow.Author.Tests.{lt-ltb, le-ltb}
use lib.Dec.{lit≤}
use Rattle.drawing.specs.View.{stretch}
use Rattle.drawing.proofs.stretch.Goals as goal

pub returns-then-b-a : goal.returns-then-b-a
unfolding stretch
returns-then-b-a c =
    let a = c.args in
    rw (lt-ltb (8 * a.other) a.side (omega arith)) (omega arith, omega arith)

pub returns-then-a-b : goal.returns-then-a-b
unfolding stretch
returns-then-a-b c =
    let a = c.args in
    rw (le-ltb (8 * a.other) a.side (omega arith), lt-ltb (8 * a.side) a.other (omega arith)) (omega arith, omega arith)

pub returns : goal.returns
unfolding stretch
returns c =
    let a = c.args in
    rw (le-ltb (8 * a.other) a.side (omega arith), le-ltb (8 * a.side) a.other (omega arith)) (refl, lit≤ tt)
