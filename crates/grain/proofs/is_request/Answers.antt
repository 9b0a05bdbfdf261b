use mathlib.Core.Path.{refl}
use borrow.Author.Tests.{le-leb, lt-leb}
use lib.ListN.{length}
use Rattle.grain.proofs.is_request.Goals as goal

pub returns-then-s-lt1 : goal.returns-then-s-lt1
returns-then-s-lt1 c = rw (lt-leb 1 (length c.args.s.now) c.if-s-lt1.true) refl

pub returns : goal.returns
returns c = rw (le-leb 1 (length c.args.s.now) c.if-s-lt1.false) refl
