use mathlib.Core.Path.{sym}
use borrow.Author.Rules.{rules}
use borrow.Author.Tests.{lt-leb}
use Rattle.getbits.specs.Bits.{look_at}
use Rattle.getbits.proofs.Chain.{left}
use Rattle.getbits.proofs.Places.{looked}
use Rattle.getbits.proofs.look.Goals as goal

pub returns-then-n-le32 : goal.returns-then-n-le32
returns-then-n-le32 c =
    let a = c.args in
    looked a.s.now a.p c.settle-q.result a.n c.settle-q.ensures.0 (search rules) c.peek.ensures

pub returns : goal.returns
unfolding look_at
returns c = sym (left _ _ _ (lt-leb c.args.n 32 (search rules)))
