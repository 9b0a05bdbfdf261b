use native.Mathlib.Omega.{arith}
use Rattle.flat.proofs.Rows.{both}
use Rattle.flat_hdr.specs.Header.{flat_inter}
use Rattle.flat_hdr.proofs.Rows.{put_in, too_short_lem}
use Rattle.flat_hdr.proofs.put_inter.Goals as goal

pub returns-then-out-lt146 : goal.returns-then-out-lt146
returns-then-out-lt146 c = too_short_lem c.if-out-lt146.true

pub returns : goal.returns
unfolding flat_inter
returns c =
    let room = c.if-out-lt146.false in
    put_in room (both (both (both c.put_drl-at.ensures c.put_tip-at.ensures (omega (arith, room))) c.put_mv-at.ensures (omega (arith, room))) c.put_screen.ensures (omega (arith, room)))
