use Rattle.text.proofs.Placed.{printed}
use Rattle.text.proofs.slices.put_item.Goals as goal

pub returns : goal.returns
returns c = printed c.new-text.ensures c.push_item.ensures.text c.push_item.ensures.size c.as_slice.ensures c.put_word.ensures
