use Rattle.text.proofs.Placed.{printed}
use Rattle.tile_request.proofs.slices.put_tile_read.Goals as goal

pub returns : goal.returns
returns c = printed c.new-text.ensures c.put_tile_read.ensures.text c.put_tile_read.ensures.size c.as_slice.ensures c.put_word.ensures
