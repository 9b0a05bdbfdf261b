use mathlib.Core.Path.{sym}
use Prim.Native.Nat.{◌-◌, ◌<◌}
use native.Mathlib.Omega.{arith}
use lib.Pow.{pow_pos}
use Rattle.getbits.proofs.Chain.{left}
use Rattle.getbits.proofs.Fields.{shl_one}
use Rattle.seq_picture.proofs.layer_mask.Goals as goal

pub overflow_sub_result_2 : goal.overflow_sub_result_2
overflow_sub_result_2 c =
    let n = c.args.n - 1 in
    let h : n < 8 = omega arith in
    rw (shl_one n 8 h) (pow_pos n)

pub returns : goal.returns
returns c =
    let n = c.args.n - 1 in
    let h : n < 8 = omega arith in
    rw (shl_one n 8 h) (sym (left _ _ _ c.if-sent.false))
