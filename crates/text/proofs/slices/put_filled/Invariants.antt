use Rattle.std.proofs.Common.{◌≡◌, ◌+◌, ◌*◌, ◌≤◌, length, drop}
use Rattle.std.proofs.lemmas.List.Edits.{sets}
use Rattle.text.specs.Put.{behind}
use Rattle.text.specs.Text.{filled}
use Rattle.text.proofs.slices.put_filled.Given as goal

-- what is left of the template is to be filled
abbrev pub invariant-loop-c : goal.invariant-loop-c
invariant-loop-c l = record {
  text : sets l.out l.end (filled (drop l.c-index l.template) l.xs l.next) ≡ sets l.initial.out l.at (filled l.template l.xs l.first);
  place : behind l.end (length (filled (drop l.c-index l.template) l.xs l.next)) (length l.out) ≡ behind l.at (length (filled l.template l.xs l.first)) (length l.initial.out);
  size : length (filled l.template l.xs l.first) ≤ 21 * l.c-index + length (filled (drop l.c-index l.template) l.xs l.next);
  kept : length l.out ≡ length l.initial.out;
}
