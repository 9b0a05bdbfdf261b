use Rattle.std.proofs.Common.{◌≡◌, ◌-◌, ◌*◌, arith}
use Rattle.superblocks.proofs.Division.{held, not_held}
use Rattle.superblocks.proofs.quotient.narrow.Goals as goal

pub returns-then-n-k : goal.returns-then-n-k
returns-then-n-k c =
    let a = c.args in
    let e : a.k - a.j - a.j ≡ a.k - a.j * 2 = omega arith in
    (omega arith, omega arith, held a.n a.d (a.k - a.j) c.requires.0 c.if-n-k.true, rw e c.requires.5)

pub returns-else-n-k : goal.returns-else-n-k
returns-else-n-k c =
    let a = c.args in
    (omega arith, omega arith, c.requires.4, omega (arith, not_held a.n a.d (a.k - a.j) c.requires.0 c.if-n-k.false))
