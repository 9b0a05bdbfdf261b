use native.Mathlib.Omega.{arith}
use Rattle.flat.proofs.Rows.{both}
use Rattle.flat_hdr.specs.Header.{flat_blocks}
use Rattle.flat_hdr.proofs.Rows.{put_in, too_short_lem}
use Rattle.flat_hdr.proofs.put_blocks.Goals as goal

pub returns-then-out-lt146 : goal.returns-then-out-lt146
returns-then-out-lt146 c = too_short_lem c.if-out-lt146.true

pub returns : goal.returns
unfolding flat_blocks
returns c =
    let room = c.if-out-lt146.false in
    put_in room (both (both c.put_partition-at.ensures c.put_segmentation-at.ensures (omega (arith, room))) c.put_intra.ensures (omega (arith, room)))
