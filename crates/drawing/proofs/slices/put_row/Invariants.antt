use Prim.Native.Nat.{◌+◌, ◌*◌}
use Rattle.drawing.specs.Picture.{tile_text}
use Rattle.drawing.specs.View.{rect_of}
use Rattle.rectangles.specs.Rectangles.{each}
use Rattle.text.specs.Put.{Put}
use Rattle.drawing.proofs.slices.put_row.Given as goal

abbrev pub invariant-loop-i : goal.invariant-loop-i
invariant-loop-i l = Put (480 * l.i) l.initial.out l.at (each l.i λ k. tile_text l.v k l.j (l.j * l.cols + k) (rect_of l.xs l.cols k l.j)) l.out l.next
