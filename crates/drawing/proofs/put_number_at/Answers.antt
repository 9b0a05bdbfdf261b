use native.Mathlib.Omega.{arith}
use borrow.Author.Tests.{lt-ltb, le-ltb}
use lib.Dec.{lit<}
use lib.ListN.{length, get_or-eq_default}
use Rattle.text.proofs.Digits.{small}
use Rattle.drawing.proofs.put_number_at.Goals as goal

pub returns-then-k-xs : goal.returns-then-k-xs
returns-then-k-xs g c =
    rw (lt-ltb c.args.k (length c.args.xs.now) c.if-k-xs.true) c.push_number.ensures

pub returns : goal.returns
returns g c =
    let none = c.if-k-xs.false in
    rw (le-ltb c.args.k (length c.args.xs.now) none, get_or-eq_default c.args.xs.now 0 {n = c.args.k} none, small 0 (lit< tt)) (record { text = c.push.ensures; size = omega arith })
