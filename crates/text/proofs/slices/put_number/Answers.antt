use Rattle.text.proofs.Placed.{printed}
use Rattle.text.proofs.slices.put_number.Goals as goal

pub returns : goal.returns
returns c = printed c.new-text.ensures c.push_number.ensures.text c.push_number.ensures.size c.as_slice.ensures c.put_word.ensures
