use mir.Facts.{to_z-of_z}
use Rattle.text.proofs.Placed.{printed}
use Rattle.text.proofs.slices.put_signed.Goals as goal

pub returns : goal.returns
returns c =
    rw (to_z-of_z c.ranges.n) at (printed {m = 21} c.new-text.ensures c.push_signed.ensures.text c.push_signed.ensures.size c.as_slice.ensures c.put_word.ensures)
