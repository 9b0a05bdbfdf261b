use Rattle.std.proofs.Common.{arith}
use Rattle.std.proofs.lemmas.List.{take_more}
use Rattle.text.proofs.Puts.{puts}
use Rattle.text.proofs.Text.push_word.Goals as goal

pub loop-b-preserved : goal.loop-b-preserved
loop-b-preserved g c = rw (take_more c.args.word.now c.loop-b.b-index 0 c.loop-b-test.true) (grind (arith, puts))
