use mathlib.Core.Path.{sym, ◌∙◌}
use mir.Facts.{to_z-of_z}
use Rattle.getbits.proofs.Chain.{taken, left}
use Rattle.seg_info.proofs.Within.{within}
use Rattle.seg_info.proofs.clamp.Goals as goal

pub returns-then-v-ltminus351 : goal.returns-then-v-ltminus351
returns-then-v-ltminus351 c = sym (taken _ _ _ (rw (to_z-of_z c.ranges.v) at c.if-v-ltminus351.true))

pub returns-then-v-gt351 : goal.returns-then-v-gt351
returns-then-v-gt351 c =
    let f = c.ranges.v in
    sym (left _ _ _ (rw (to_z-of_z f) at c.if-v-ltminus351.false) ∙ taken _ _ _ (rw (to_z-of_z f) at c.if-v-gt351.true))

pub overflow_cast_result : goal.overflow_cast_result
overflow_cast_result c =
    let f = c.ranges.v in
    rw (to_z-of_z f) (within _ (rw (to_z-of_z f) at c.if-v-ltminus351.false) (rw (to_z-of_z f) at c.if-v-gt351.false))

pub returns : goal.returns
returns c =
    let f = c.ranges.v in
    let low = rw (to_z-of_z f) at c.if-v-ltminus351.false in
    let high = rw (to_z-of_z f) at c.if-v-gt351.false in
    rw (to_z-of_z f, to_z-of_z (within _ low high)) (sym (left _ _ _ low ∙ left _ _ _ high))
