use Rattle.std.proofs.Common.{◌≡◌, ◌*◌, ◌≤◌, length, take}
use Rattle.text.specs.Text.{put, nexts}
use Rattle.text.proofs.Text.push_nexts.Given as goal

abbrev pub invariant-loop-x : goal.invariant-loop-x
invariant-loop-x g l = record {
  text : l.self ≡ put g.row.N l.initial.self (nexts (take l.x-index l.xs));
  size : length (nexts (take l.x-index l.xs)) ≤ 21 * l.x-index;
}
