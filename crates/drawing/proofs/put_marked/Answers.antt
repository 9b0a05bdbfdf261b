use Rattle.std.proofs.Common.{length, arith}
use Rattle.std.proofs.lemmas.Grind.{common_steps}
use Rattle.drawing.specs.Template.{integers}
use Rattle.drawing.proofs.Marked.{number, longer}
use Rattle.text.proofs.Puts.{puts}
use Rattle.text.proofs.Filled.{filled_mark, filled_other, filled_end}
use Rattle.drawing.proofs.put_marked.Goals as goal
use Rattle.drawing.proofs.put_marked.Goals.{then-c-eq35, else-c-eq35}

pub loop-c-preserved : goal.loop-c-preserved
loop-c-preserved g c = elim c.if-c-eq35.branch [
  | then-c-eq35 w ↦ let e = filled_mark c.args.template.now (integers c.args.xs.now) c.loop-c.c-index c.loop-c.k c.loop-c-test.true w.if-c-eq35.true in
      let n = number c.args.xs.now c.loop-c.k in
      let m = longer c.loop-c.k (length c.args.xs.now) in
      grind (arith, puts, common_steps)
  | else-c-eq35 w ↦ let e = filled_other c.args.template.now (integers c.args.xs.now) c.loop-c.c-index c.loop-c.k c.loop-c-test.true w.if-c-eq35.false in
      grind (arith, puts, common_steps)
]

pub returns-clause-text : goal.returns-clause-text
returns-clause-text g c = grind (arith, puts, filled_end)

pub returns-clause-size : goal.returns-clause-size
returns-clause-size g c = grind (arith, puts, filled_end)
