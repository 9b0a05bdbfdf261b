use mathlib.Core.Path.{sym}
use Prim.Native.Nat.{◌<◌}
use native.Mathlib.Omega.{arith}
use Rattle.getbits.proofs.Chain.{through}
use Rattle.seq_inter.specs.Inter.{count_if}
use Rattle.seq_inter.proofs.Uniform.{uniform_below}
use Rattle.seq_inter.proofs.count_if.Goals as goal

below : (c : goal.After-struct_known-1) → c.uniform_if-n.result.value < c.args.max
below c =
    rw c.uniform_if-n.ensures (uniform_below _ _ _ _ c.requires.0)

pub returns : goal.returns
unfolding count_if
returns c = sym (through _ _ c.uniform_if-n.ensures)

pub overflow_add_result : goal.overflow_add_result
overflow_add_result c = omega (arith, below c)

pub overflow_cast_result : goal.overflow_cast_result
overflow_cast_result c = omega (arith, below c)
