use Rattle.std.proofs.Common.{arith}
use lib.Seq.{take_all}
use mathlib.Core.List.{append_assoc}
use Rattle.text.specs.Text.{nexts}
use Rattle.text.proofs.Placed.{none, also, within}
use Rattle.text.proofs.Rows.{nexts_more}
use Rattle.text.proofs.slices.put_line.Goals as goal

pub loop-x-init : goal.loop-x-init
unfolding nexts
loop-x-init c = none _ _

pub loop-x-preserved : goal.loop-x-preserved
loop-x-preserved c = rw (nexts_more c.args.xs.now c.loop-x.x-index c.loop-x-test.true) (within (omega arith) (also c.loop-x.invariant c.put_item-next.ensures))

pub returns : goal.returns
returns c =
    let numbers = rw (take_all _ _ c.loop-x-test.false) at c.loop-x.invariant in
    rw append_assoc (also c.put_word-next.ensures (also (within (omega arith) numbers) c.put_byte.ensures))
