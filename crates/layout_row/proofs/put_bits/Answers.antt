use mathlib.Core.Path.{◌≡◌}
use Prim.Native.Nat.{◌-◌, ◌/◌, ◌^◌}
use native.Mathlib.Omega.{arith}
use Rattle.layout_bits.proofs.Numbers.{length_bits}
use Rattle.layout_row.proofs.Append.{nothing, both, digits_none, digits_more, digits_all}
use Rattle.layout_row.proofs.put_bits.Goals as goal

pub loop-i-init : goal.loop-i-init
loop-i-init c = rw (digits_none (c.args.v / 2 ^ (c.args.n - 0))) (nothing c.args.row.now c.args.at)

-- there is room for the next bit
pub put_bit-end-requires : goal.put_bit-end-requires
put_bit-end-requires c =
    let i = c.loop-i.i in
    let e = length_bits i (c.args.v / 2 ^ (c.args.n - i)) in
    (omega (arith, c.loop-i.invariant.ends, e, c.requires.0, c.loop-i-test.true), omega arith)

pub loop-i-preserved : goal.loop-i-preserved
loop-i-preserved c =
    rw (digits_more c.args.n c.args.v c.loop-i.i c.loop-i-test.true) (both c.loop-i.invariant c.put_bit-end.ensures)

pub returns : goal.returns
returns c =
    let e : c.loop-i.i ≡ c.args.n = omega arith in
    rw (digits_all c.args.n c.args.v) at (rw e at c.loop-i.invariant)
