use Rattle.std.proofs.Common.{◌≡◌, ◌*◌, ◌≤◌, length, take}
use Rattle.text.specs.Text.{put, row}
use Rattle.write.proofs.put_bytes.Given as goal

abbrev pub invariant-loop-i : goal.invariant-loop-i
invariant-loop-i g l = record {
  text : l.out ≡ put g.row.N l.initial.out (row (take l.i l.bytes));
  size : length (row (take l.i l.bytes)) ≤ 21 * l.i;
}
