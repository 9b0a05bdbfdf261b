use mathlib.Core.Path.{refl}
use mir.Facts.{to_z-of_z}
use Rattle.tile_layout.proofs.tile_args.Goals as goal

pub returns : goal.returns
returns c =
    let f = c.ranges in
    rw (c.not_below_0-3.ensures, c.not_below_0-2.ensures, c.not_below_0.ensures, to_z-of_z f.sbmul, to_z-of_z f.w, to_z-of_z f.h) refl
