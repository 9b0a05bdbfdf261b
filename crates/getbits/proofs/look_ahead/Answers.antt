use borrow.Author.Rules.{rules}
use Rattle.getbits.proofs.Places.{looked}
use Rattle.getbits.proofs.look_ahead.Goals as goal

pub returns-then-s-q-ge8 : goal.returns-then-s-q-ge8
returns-then-s-q-ge8 c =
    let a = c.args in
    looked a.s.now a.p c.settle-q.result a.n c.settle-q.ensures.0 (search rules) c.within.ensures
