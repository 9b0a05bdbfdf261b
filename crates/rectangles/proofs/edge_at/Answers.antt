use Prim.Native.Nat.{ℕ, ◌*◌, min}
use mathlib.Core.Path.{ap, ◌∙◌}
use native.Mathlib.Omega.{arith}
use Rattle.rectangles.proofs.Rising.{samples_lt}
use Rattle.rectangles.proofs.edge_at.Goals as goal

pub overflow_mul-from : goal.overflow_mul-from
overflow_mul-from c =
    record { fits = samples_lt c.from.result c.args.side (omega arith) c.requires.1 }

pub returns : goal.returns
returns c =
    c.min.ensures ∙ ap (λ (x : ℕ). min (x * c.args.side) c.args.most) (c.from.ensures ∙ c.start_at.ensures)
