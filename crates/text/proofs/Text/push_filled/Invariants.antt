use Rattle.std.proofs.Common.{◌≡◌, ◌+◌, ◌*◌, ◌≤◌, length, drop}
use Rattle.text.specs.Text.{put, filled}
use Rattle.text.proofs.Text.push_filled.Given as goal

-- what is left of the template is to be filled
abbrev pub invariant-loop-c : goal.invariant-loop-c
invariant-loop-c g l = record {
  text : put g.row.N l.self (filled (drop l.c-index l.template) l.xs l.next) ≡ put g.row.N l.initial.self (filled l.template l.xs l.first);
  size : length (filled l.template l.xs l.first) ≤ 21 * l.c-index + length (filled (drop l.c-index l.template) l.xs l.next);
}
