use mir.Facts.{to_z-of_z}
use Rattle.lent_tiles.proofs.seq_given.Goals as goal

pub returns : goal.returns
returns c =
    rw (to_z-of_z c.ranges.max_width, to_z-of_z c.ranges.max_height, c.tile_info_of.ensures, c.present_of.ensures)
