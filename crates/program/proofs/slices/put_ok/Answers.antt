use Rattle.text.proofs.Placed.{printed}
use Rattle.program.proofs.slices.put_ok.Goals as goal

pub returns : goal.returns
returns c = printed c.new-text.ensures c.put_ok.ensures.text c.put_ok.ensures.size c.as_slice.ensures c.put_word.ensures
