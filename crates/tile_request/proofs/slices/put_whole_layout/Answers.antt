use Rattle.text.proofs.Placed.{printed}
use Rattle.tile_request.proofs.slices.put_whole_layout.Goals as goal

pub returns : goal.returns
returns c = printed c.new-text.ensures c.put_whole_layout.ensures.text c.put_whole_layout.ensures.size c.as_slice.ensures c.put_word.ensures
