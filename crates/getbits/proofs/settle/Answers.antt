use borrow.Author.Rules.{rules}
use Rattle.getbits.proofs.Places.{pos_past, pos_over, settled_in, settled_end}
use Rattle.getbits.proofs.settle.Goals as goal

pub returns-then-p-lt8 : goal.returns-then-p-lt8
returns-then-p-lt8 c =
    let a = c.args in
    (settled_in a.s.now a.p (search rules) (search rules), search rules, search rules)

pub returns-else-p-lt8 : goal.returns-else-p-lt8
returns-else-p-lt8 c =
    let a = c.args in
    (settled_end a.s.now a.p (pos_over a.s.now a.p (search rules)), search rules, search rules)

pub returns-else-p-s : goal.returns-else-p-s
returns-else-p-s c =
    let a = c.args in
    (settled_end a.s.now a.p (pos_past a.s.now a.p (search rules)), search rules, search rules)
