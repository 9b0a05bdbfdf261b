use Rattle.std.proofs.Common.{◌≡◌, ◌+◌, ◌*◌, ◌≤◌, min, length, drop}
use lib.Seq.{sets}
use Rattle.drawing.specs.Template.{integers, marked}
use Rattle.text.specs.Put.{behind}
use Rattle.text.specs.Text.{filled}
use Rattle.drawing.proofs.slices.put_marked.Given as goal

-- what is left of the template is to be filled
abbrev pub invariant-loop-c : goal.invariant-loop-c
invariant-loop-c l = record {
  in_range : l.k ≤ l.c-index;
  text : sets l.out l.next (filled (drop l.c-index l.template) (integers l.xs) l.k) ≡ sets l.initial.out l.at (marked l.template l.xs);
  place : behind l.next (length (filled (drop l.c-index l.template) (integers l.xs) l.k)) (length l.out) ≡ behind l.at (length (marked l.template l.xs)) (length l.initial.out);
  size : length (marked l.template l.xs) ≤ l.c-index + 19 * min l.k (length l.xs) + length (filled (drop l.c-index l.template) (integers l.xs) l.k);
}
