use mir.Facts.{to_z-of_z}
use Rattle.lent_tiles.proofs.frame_given.Goals as goal

pub returns : goal.returns
returns c =
    rw (to_z-of_z c.ranges.width, to_z-of_z c.ranges.height, c.tile_info_of.ensures, c.frame_type_of.ensures)
