use mathlib.Core.Path.{refl}
use mir.Facts.{to_z-of_z}
use Rattle.frame_hdr.proofs.frame_args.Goals as goal

pub returns : goal.returns
returns c =
    rw (c.not_below_0-2.ensures, c.not_below_0.ensures, c.multiplier_of.ensures.0, c.frame_code-sb128.ensures, to_z-of_z c.ranges.height, to_z-of_z c.ranges.width) refl
