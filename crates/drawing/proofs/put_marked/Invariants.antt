use Rattle.std.proofs.Common.{◌≡◌, ◌+◌, ◌*◌, ◌≤◌, min, length, drop}
use Rattle.drawing.specs.Template.{integers, marked}
use Rattle.text.specs.Text.{put, filled}
use Rattle.drawing.proofs.put_marked.Given as goal

-- what is left of the template is to be filled
abbrev pub invariant-loop-c : goal.invariant-loop-c
invariant-loop-c g l = record {
  in_range : l.k ≤ l.c-index;
  text : put g.row.N l.out (filled (drop l.c-index l.template) (integers l.xs) l.k) ≡ put g.row.N l.initial.out (marked l.template l.xs);
  size : length (marked l.template l.xs) ≤ l.c-index + 19 * min l.k (length l.xs) + length (filled (drop l.c-index l.template) (integers l.xs) l.k);
}
