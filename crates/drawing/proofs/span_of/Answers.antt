use mathlib.Core.Path.{refl}
use native.Mathlib.Omega.{arith}
use borrow.Author.Tests.{ne_eqb}
use Rattle.drawing.proofs.Products.{drawn, placed}
use Rattle.drawing.specs.View.{span_of}
use Rattle.drawing.proofs.span_of.Goals as goal

pub overflow_mul-result : goal.overflow_mul-result
overflow_mul-result c = omega (arith, drawn c.args.scale c.from.result (omega arith) (omega arith))

pub overflow_mul-result-then-reach-eq0-2 : goal.overflow_mul-result-then-reach-eq0-2
overflow_mul-result-then-reach-eq0-2 c = omega (arith, placed c.args.unit c.args.i (omega arith) (omega arith))

pub overflow_add-result : goal.overflow_add-result
overflow_add-result c = omega (arith, drawn c.args.scale c.from.result (omega arith) (omega arith), placed c.args.unit c.args.i (omega arith) (omega arith))

pub returns-then-reach-eq0 : goal.returns-then-reach-eq0
unfolding span_of
returns-then-reach-eq0 c =
    let a = c.args in
    let far = drawn a.scale c.from.result (omega arith) (omega arith) in
    let more = placed a.unit a.i (omega arith) (omega arith) in
    rw (c.if-reach-eq0.true, ← c.from.ensures) (refl, record { at = omega arith; size = omega arith })

pub overflow_mul-result-2 : goal.overflow_mul-result-2
overflow_mul-result-2 c = omega (arith, drawn c.args.scale c.from-2.result (omega arith) (omega arith))

pub overflow_mul-result-3 : goal.overflow_mul-result-3
overflow_mul-result-3 c = omega (arith, drawn c.args.scale c.from-3.result (omega arith) (omega arith))

pub returns : goal.returns
unfolding span_of
returns c =
    let a = c.args in
    let far = drawn a.scale c.from-2.result (omega arith) (omega arith) in
    let long = drawn a.scale c.from-3.result (omega arith) (omega arith) in
    rw (ne_eqb a.reach 0 c.if-reach-eq0.false, ← c.from-2.ensures, ← c.from-3.ensures) (refl, record { at = omega arith; size = omega arith })
