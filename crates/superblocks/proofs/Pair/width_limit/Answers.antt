use Rattle.std.proofs.Common.{◌/◌, ap}
use Rattle.superblocks.proofs.Pair.width_limit.Goals as goal

pub returns : goal.returns
returns c = ap (◌/◌ c.args.n) c.sbsz_log2.ensures.0
