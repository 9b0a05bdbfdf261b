use Rattle.std.proofs.Common.{◌≡◌, ◌*◌, ◌≤◌, length, get_or, take, drop}
use Rattle.rectangles.specs.Rectangles.{each}
use Rattle.text.specs.Text.{put}
use Rattle.drawing.specs.Picture.{left_text}
use Rattle.drawing.specs.View.{row_of}
use Rattle.drawing.proofs.put_row_starts.Given as goal

abbrev pub invariant-loop-j : goal.invariant-loop-j
invariant-loop-j g l = record {
  text : l.out ≡ put g.row.N l.initial.out (each l.j λ k. left_text l.v.unit (row_of l.v k (take 4 (drop (4 * (k * l.cols)) l.xs))) (get_or l.starts k 0));
  size : length (each l.j λ k. left_text l.v.unit (row_of l.v k (take 4 (drop (4 * (k * l.cols)) l.xs))) (get_or l.starts k 0)) ≤ 260 * l.j;
}
