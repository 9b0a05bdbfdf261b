use native.Mathlib.Omega.{arith}
use Rattle.flat_hdr.specs.Header.{flat_seq_hdr}
use Rattle.flat_hdr.proofs.Rows.{and_then, all_put}
use Rattle.flat_hdr.proofs.put_seq_hdr.Goals as goal

pub returns : goal.returns
unfolding flat_seq_hdr
returns c =
    let w2 = and_then c.put_head.ensures c.put_picture.ensures (omega arith) in
    let w3 = and_then w2 c.put_blocks.ensures (omega arith) in
    let w4 = and_then w3 c.put_motion.ensures (omega arith) in
    let w5 = and_then w4 c.put_inter.ensures (omega arith) in
    let w6 = and_then w5 c.put_residual.ensures (omega arith) in
    let w7 = and_then w6 c.put_filters.ensures (omega arith) in
    let w8 = and_then w7 c.put_last.ensures (omega arith) in
    all_put w8
