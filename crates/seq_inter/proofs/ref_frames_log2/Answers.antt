use mathlib.Core.Path.{sym}
use Prim.Native.Nat.{◌-◌}
use lib.Count.{leading_le}
use Rattle.getbits.proofs.Chain.{left}
use Rattle.seq_inter.proofs.ref_frames_log2.Goals as goal

pub overflow_sub_result_2 : goal.overflow_sub_result_2
overflow_sub_result_2 c = leading_le 32 (c.args.n - 1)

pub returns : goal.returns
returns c = sym (left _ _ _ c.if-reduced.false)
