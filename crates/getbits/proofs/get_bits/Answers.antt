use mathlib.Core.Path.{◌∙◌, ap}
use mir.Facts.{to_z-of_z}
use Rattle.getbits.specs.Bits.{get_bits}
use Rattle.getbits.proofs.Widths.{not_negative, nat_abs_fits, width_negative}
use Rattle.getbits.proofs.get_bits.Goals as goal

pub returns-then-n-lt0 : goal.returns-then-n-lt0
returns-then-n-lt0 c =
    c.refuse.ensures ∙ width_negative c.args.s.now c.args.p c.args.n (rw (to_z-of_z c.ranges.n) at c.if-n-lt0.true)

pub overflow_cast_n : goal.overflow_cast_n
overflow_cast_n c =
    let h = rw (to_z-of_z c.ranges.n) at c.if-n-lt0.false in
    rw (to_z-of_z c.ranges.n) ((not_negative c.args.n h).0, nat_abs_fits c.args.n c.ranges.n)

pub returns : goal.returns
returns c =
    let h = rw (to_z-of_z c.ranges.n) at c.if-n-lt0.false in
    rw (to_z-of_z c.ranges.n) at c.read_bits.ensures ∙ ap (get_bits c.args.s.now c.args.p) (not_negative c.args.n h).1
