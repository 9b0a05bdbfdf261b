use mathlib.Core.List.{[], ◌∷◌}
use mathlib.Core.Path.{◌≡◌}
use lib.Seq.{sets}
use Rattle.rectangles.specs.Rectangles.{edge, reach, each}
use Rattle.rectangles.proofs.put_row.Given as goal

abbrev pub invariant-loop-col : goal.invariant-loop-col
invariant-loop-col l =
    l.out ≡ sets l.initial.out l.at (each l.col λ i. edge l.starts l.side l.w i ∷ l.down.begin ∷ reach l.starts l.side l.w i ∷ l.down.reach ∷ [])
