use Rattle.std.proofs.Common.{◌≡◌, ◌+◌, ◌*◌, ◌≤◌, length}
use Rattle.rectangles.specs.Rectangles.{each}
use Rattle.text.specs.Text.{put}
use Rattle.drawing.specs.Picture.{tile_text}
use Rattle.drawing.specs.View.{rect_of}
use Rattle.drawing.proofs.put_row.Given as goal

abbrev pub invariant-loop-i : goal.invariant-loop-i
invariant-loop-i g l = record {
  text : l.out ≡ put g.row.N l.initial.out (each l.i λ k. tile_text l.v k l.j (l.j * l.cols + k) (rect_of l.xs l.cols k l.j));
  size : length (each l.i λ k. tile_text l.v k l.j (l.j * l.cols + k) (rect_of l.xs l.cols k l.j)) ≤ 480 * l.i;
}
