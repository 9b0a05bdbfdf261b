use Prim.Native.Nat.{◌%◌}
use native.Mathlib.Omega.{arith}
use lib.Pow.{pow_pos, pow_mono}
use Rattle.getbits.proofs.Fields.{shl_one}
use Rattle.getbits.proofs.power.Goals as goal

pub returns : goal.returns
returns c =
    let e = shl_one (c.args.n % 32) 32 (omega arith) in
    (e, rw e (pow_pos (c.args.n % 32)), rw e (pow_mono {j = 31} (omega arith)))
