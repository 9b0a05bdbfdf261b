use Rattle.std.proofs.Common.{arith}
use Rattle.text.proofs.Digits.{decimal_length}
use Rattle.text.proofs.Text.+push_number.Goals as goal

pub returns-clause-size : goal.returns-clause-size
returns-clause-size g t c = decimal_length 19 c.args.n (omega (arith, c.ranges.n))
