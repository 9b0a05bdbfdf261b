use native.Mathlib.Omega.{arith}
use Rattle.flat.proofs.Rows.{both}
use Rattle.flat_hdr.specs.Header.{flat_picture}
use Rattle.flat_hdr.proofs.Rows.{put_in, too_short_lem}
use Rattle.flat_hdr.proofs.put_picture.Goals as goal

pub returns-then-out-lt146 : goal.returns-then-out-lt146
returns-then-out-lt146 c = too_short_lem c.if-out-lt146.true

pub returns : goal.returns
unfolding flat_picture
returns c =
    let room = c.if-out-lt146.false in
    put_in room (both (both (both c.put_layers-at.ensures c.put_size-at.ensures (omega (arith, room))) c.put_crop-at.ensures (omega (arith, room))) c.put_dependencies.ensures (omega (arith, room)))
