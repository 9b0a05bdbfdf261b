use mathlib.Core.Path.{refl}
use mir.Facts.{to_z-of_z}
use Rattle.frame_hdr.proofs.domain.is_extent.Goals as goal

pub returns : goal.returns
returns c = rw (c.is_size.ensures, c.not_below_0.ensures, to_z-of_z c.ranges.x) refl
