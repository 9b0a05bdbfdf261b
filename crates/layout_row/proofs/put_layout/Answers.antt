use mathlib.Core.Bool.{◌&&◌}
use native.Mathlib.Omega.{arith}
use borrow.Author.Tests.{leb-true}
use Rattle.getbits.proofs.Chain.{both, taken, left}
use lib.Dec.{leb}
use Rattle.tile_layout.specs.Limits.{in_domain}
use Rattle.layout_bits.specs.Bits.{layout_bits}
use Rattle.layout_row.proofs.Append as append
use Rattle.layout_row.proofs.put_layout.Goals as goal

pub returns-then-t : goal.returns-then-t
unfolding layout_bits
returns-then-t c =
    let a = c.args in
    rw (taken a.t.uniform _ _ c.if-t.true) (append.both c.put_bit-at.ensures c.put_logs.ensures)

pub put_sides_requires : goal.put_sides_requires
put_sides_requires c =
    let a = c.args in
    let p = both (in_domain a.a && leb a.t.cols 64) (leb a.t.rows 64) c.requires in
    let q = both (in_domain a.a) (leb a.t.cols 64) p.0 in
    (omega (arith, c.put_bit-at-2.ensures.ends), q.0, leb-true a.t.cols 64 q.1, leb-true a.t.rows 64 p.1)

pub returns : goal.returns
unfolding layout_bits
returns c =
    let a = c.args in
    rw (left a.t.uniform _ _ c.if-t.false) (append.both c.put_bit-at-2.ensures c.put_sides.ensures)
