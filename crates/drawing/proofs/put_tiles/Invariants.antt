use Rattle.std.proofs.Common.{◌≡◌, ◌+◌, ◌*◌, ◌≤◌, length}
use Rattle.rectangles.specs.Rectangles.{each}
use Rattle.text.specs.Text.{put}
use Rattle.drawing.specs.Picture.{tile_text}
use Rattle.drawing.specs.View.{rect_of}
use Rattle.drawing.proofs.put_tiles.Given as goal

abbrev pub invariant-loop-j : goal.invariant-loop-j
invariant-loop-j g l = record {
  text : l.out ≡ put g.row.N l.initial.out (each l.j λ y. each l.cols λ x. tile_text l.v x y (y * l.cols + x) (rect_of l.xs l.cols x y));
  size : length (each l.j λ y. each l.cols λ x. tile_text l.v x y (y * l.cols + x) (rect_of l.xs l.cols x y)) ≤ 30720 * l.j;
}
