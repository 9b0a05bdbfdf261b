use Rattle.std.proofs.Common.{◌≡◌, ◌*◌, ◌≤◌, length}
use Rattle.rectangles.specs.Rectangles.{each}
use Rattle.text.specs.Text.{put}
use Rattle.drawing.specs.Picture.{lines_text}
use Rattle.drawing.proofs.put_all_lines.Given as goal

abbrev pub invariant-loop-i : goal.invariant-loop-i
invariant-loop-i g l = record {
  text : l.out ≡ put g.row.N l.initial.out (each l.i λ k. lines_text l.v l.side k);
  size : length (each l.i λ k. lines_text l.v l.side k) ≤ 194 * l.i;
}
