use Rattle.std.proofs.Common.{◌≡◌, ◌*◌, ◌≤◌, length, take, drop}
use Rattle.rectangles.specs.Rectangles.{each}
use Rattle.text.specs.Text.{put, row, line}
use Rattle.rects.proofs.put_tiles.Given as goal

abbrev pub invariant-loop-k : goal.invariant-loop-k
invariant-loop-k g l = record {
  text : l.out ≡ put g.row.N l.initial.out (each l.k λ i. line (row (take 4 (drop (4 * i) l.xs))));
  size : length (each l.k λ i. line (row (take 4 (drop (4 * i) l.xs)))) ≤ 84 * l.k;
}
