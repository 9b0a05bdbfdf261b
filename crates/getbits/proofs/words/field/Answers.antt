use native.Mathlib.Omega.{arith}
use Rattle.getbits.proofs.Fields.{shifts, field_lt}
use Rattle.getbits.proofs.words.field.Goals as goal

pub overflow_cast_result_3 : goal.overflow_cast_result_3
overflow_cast_result_3 c = rw (shifts c.args.w c.args.used c.args.n 64 (omega arith) (omega arith)) (record { fits = field_lt _ c.args.n c.requires.1 })

pub returns : goal.returns
returns c = shifts c.args.w c.args.used c.args.n 64 (omega arith) (omega arith)
