use mathlib.Core.Path.{refl}
use native.Mathlib.Omega.{arith}
use Rattle.drawing.proofs.Products.{stretched}
use Rattle.drawing.specs.View.{view_of}
use Rattle.drawing.proofs.view_of.Goals as goal

pub overflow_mul-width : goal.overflow_mul-width
overflow_mul-width c = omega (arith, stretched c.from.result c.stretch-across.result (omega arith) (omega arith))

pub overflow_mul-height : goal.overflow_mul-height
overflow_mul-height c = omega (arith, stretched c.from-2.result c.stretch-down.result (omega arith) (omega arith))

pub returns : goal.returns
unfolding view_of
returns c =
    let a = stretched c.from.result c.stretch-across.result (omega arith) (omega arith) in
    let b = stretched c.from-2.result c.stretch-down.result (omega arith) (omega arith) in (
      rw (c.max-unit.ensures, c.from.ensures, c.from-2.ensures, c.stretch-across.ensures.0, c.stretch-down.ensures.0) refl,
      record { width = omega arith; height = omega arith; across = omega arith; down = omega arith; unit = omega arith },
    )
