use native.Mathlib.Omega.{arith}
use borrow.Author.Rules.{rules}
use Rattle.getbits.proofs.Callers.{byte_pos_le}
use Rattle.getbits.proofs.remaining_bytes.Goals as goal

pub overflow_sub_result : goal.overflow_sub_result
overflow_sub_result c =
    let a = c.args in
    omega (arith, c.byte_pos.ensures, byte_pos_le a.s.now a.p)

pub returns : goal.returns
returns c = search rules
