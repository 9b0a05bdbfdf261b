use Rattle.text.proofs.Placed.{printed}
use Rattle.program.proofs.slices.put_refusal.Goals as goal

pub returns : goal.returns
returns c = printed c.new-text.ensures c.put_refusal.ensures.text c.put_refusal.ensures.size c.as_slice.ensures c.put_word.ensures
