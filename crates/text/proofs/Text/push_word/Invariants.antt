use Rattle.std.proofs.Common.{◌≡◌, take}
use Rattle.text.specs.Text.{put}
use Rattle.text.proofs.Text.push_word.Given as goal

abbrev pub invariant-loop-b : goal.invariant-loop-b
invariant-loop-b g l = l.self ≡ put g.row.N l.initial.self (take l.b-index l.word)
