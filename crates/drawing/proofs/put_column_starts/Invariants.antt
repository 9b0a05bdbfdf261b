use Rattle.std.proofs.Common.{◌≡◌, ◌*◌, ◌≤◌, length, get_or, take, drop}
use Rattle.rectangles.specs.Rectangles.{each}
use Rattle.text.specs.Text.{put}
use Rattle.drawing.specs.Picture.{above_text}
use Rattle.drawing.specs.View.{column_of}
use Rattle.drawing.proofs.put_column_starts.Given as goal

abbrev pub invariant-loop-i : goal.invariant-loop-i
invariant-loop-i g l = record {
  text : l.out ≡ put g.row.N l.initial.out (each l.i λ k. above_text l.v.unit (column_of l.v k (take 4 (drop (4 * k) l.xs))) (get_or l.starts k 0));
  size : length (each l.i λ k. above_text l.v.unit (column_of l.v k (take 4 (drop (4 * k) l.xs))) (get_or l.starts k 0)) ≤ 260 * l.i;
}
