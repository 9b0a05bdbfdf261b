use Prim.Native.Nat.{◌*◌}
use lib.ListN.{get_or, take, drop}
use Rattle.drawing.specs.Picture.{left_text}
use Rattle.drawing.specs.View.{row_of}
use Rattle.rectangles.specs.Rectangles.{each}
use Rattle.text.specs.Put.{Put}
use Rattle.drawing.proofs.slices.put_rows.Given as goal

abbrev pub invariant-loop-j : goal.invariant-loop-j
invariant-loop-j l = Put (260 * l.j) l.initial.out l.at (each l.j λ k. left_text l.v.unit (row_of l.v k (take 4 (drop (4 * (k * l.cols)) l.xs))) (get_or l.starts k 0)) l.out l.next
