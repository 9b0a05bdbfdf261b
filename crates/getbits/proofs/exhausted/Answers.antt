use Rattle.getbits.proofs.Places.{ran_out}
use Rattle.getbits.proofs.exhausted.Goals as goal

pub returns : goal.returns
returns c = ran_out c.args.s.now
