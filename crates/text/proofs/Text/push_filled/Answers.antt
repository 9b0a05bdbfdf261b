use Rattle.std.proofs.Common.{arith, ◌+◌, drop}
use Rattle.std.proofs.lemmas.Grind.{common_steps}
use Rattle.text.proofs.Puts.{puts}
use Rattle.text.proofs.Filled.{filled_mark, filled_other, filled_end, filled_past}
use Rattle.text.proofs.Text.push_filled.Goals as goal
use Rattle.text.proofs.Text.push_filled.Goals.{then-c-eq35, else-c-eq35}

pub loop-c-preserved : goal.loop-c-preserved
loop-c-preserved g c = elim c.if-c-eq35.branch [
  | then-c-eq35 w ↦ let e = filled_mark c.args.template.now c.args.xs.now c.loop-c.c-index c.loop-c.next c.loop-c-test.true w.if-c-eq35.true in
      let past = filled_past (drop (c.loop-c.c-index + 1) c.args.template.now) c.args.xs.now c.if-c-eq35.next (c.loop-c.next + 1) in
      grind (arith, puts, common_steps)
  | else-c-eq35 w ↦ let e = filled_other c.args.template.now c.args.xs.now c.loop-c.c-index c.loop-c.next c.loop-c-test.true w.if-c-eq35.false in
      grind (arith, puts, common_steps)
]

pub returns-clause-text : goal.returns-clause-text
returns-clause-text g c = grind (arith, puts, filled_end)

pub returns-clause-size : goal.returns-clause-size
returns-clause-size g c = grind (arith, puts, filled_end)
