use Rattle.std.proofs.Common.{arith, ◌≡◌}
use Rattle.text.specs.Text.{row}
use Rattle.text.proofs.Placed.{none, also, within}
use Rattle.text.proofs.Rows.{row_more, take_min}
use Rattle.text.proofs.slices.put_row.Goals as goal

pub loop-i-init : goal.loop-i-init
unfolding row
loop-i-init c = none _ _

pub loop-i-preserved : goal.loop-i-preserved
loop-i-preserved c =
    rw (row_more c.args.xs.now c.loop-i.i (omega arith), ← c.from.ensures) (within (omega arith) (also c.loop-i.invariant c.put_item-end.ensures))

pub returns : goal.returns
returns c =
    let done : c.loop-i.i ≡ c.min-i-end.result = omega arith in
    rw (← take_min c.args.xs.now c.args.n, ← c.min-i-end.ensures, ← done) (within (omega arith) (also c.loop-i.invariant c.put_byte.ensures))
