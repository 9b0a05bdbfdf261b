use Rattle.text.proofs.Placed.{printed}
use Rattle.frame_request.proofs.slices.put_frame_read.Goals as goal

pub returns : goal.returns
returns c = printed c.new-text.ensures c.put_frame_read.ensures.text c.put_frame_read.ensures.size c.as_slice.ensures c.put_word.ensures
