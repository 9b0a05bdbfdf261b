use Prim.Native.Nat.{◌*◌}
use lib.ListN.{get_or, take, drop}
use Rattle.drawing.specs.Picture.{above_text}
use Rattle.drawing.specs.View.{column_of}
use Rattle.rectangles.specs.Rectangles.{each}
use Rattle.text.specs.Put.{Put}
use Rattle.drawing.proofs.slices.put_columns.Given as goal

abbrev pub invariant-loop-i : goal.invariant-loop-i
invariant-loop-i l = Put (260 * l.i) l.initial.out l.at (each l.i λ k. above_text l.v.unit (column_of l.v k (take 4 (drop (4 * k) l.xs))) (get_or l.starts k 0)) l.out l.next
