use Prim.Native.Nat.{◌+◌, ◌*◌}
use Rattle.drawing.specs.Picture.{tile_text}
use Rattle.drawing.specs.View.{rect_of}
use Rattle.rectangles.specs.Rectangles.{each}
use Rattle.text.specs.Put.{Put}
use Rattle.drawing.proofs.slices.put_layout.Given as goal

abbrev pub invariant-loop-j : goal.invariant-loop-j
invariant-loop-j l =
    Put (30720 * l.j) l.initial.out l.initial.next (each l.j λ y. each l.cols λ x. tile_text l.v x y (y * l.cols + x) (rect_of l.xs l.cols x y)) l.out l.next
