use Rattle.flat_hdr.proofs.Rows.{put_in, too_short_lem}
use Rattle.flat_hdr.proofs.put_head.Goals as goal

pub returns-then-out-lt146 : goal.returns-then-out-lt146
returns-then-out-lt146 c = too_short_lem c.if-out-lt146.true

pub returns : goal.returns
returns c =
    put_in c.if-out-lt146.false (rw c.layout_number.ensures at c.put_bytes.ensures)
