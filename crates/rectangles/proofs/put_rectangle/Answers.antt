use mathlib.Core.Path.{◌≡◌}
use Prim.Native.Nat.{suc, ◌+◌}
use native.Mathlib.Omega.{arith}
use lib.ListN.{length-set}
use Rattle.rectangles.proofs.put_rectangle.Goals as goal

pub bounds_out_at_2 : goal.bounds_out_at_2
bounds_out_at_2 c = simp length-set (omega arith)

pub bounds_out_at_3 : goal.bounds_out_at_3
bounds_out_at_3 c = simp length-set (omega arith)

pub bounds_out_at_4 : goal.bounds_out_at_4
bounds_out_at_4 c = simp length-set (omega arith)

pub returns : goal.returns
returns c =
    let at = c.args.at in
    let one : at + 1 ≡ suc at = omega arith in
    let two : at + 2 ≡ suc (suc at) = omega arith in
    let three : at + 3 ≡ suc (suc (suc at)) = omega arith in
    rw (one, two, three)
