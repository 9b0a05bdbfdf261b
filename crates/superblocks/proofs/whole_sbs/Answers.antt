use Rattle.std.proofs.Common.{◌/◌, ap, pow_mono}
use Rattle.superblocks.proofs.Counts.{quotient_fits}
use Rattle.superblocks.proofs.whole_sbs.Goals as goal

pub overflow_cast_result_2 : goal.overflow_cast_result_2
overflow_cast_result_2 c = record { fits = quotient_fits _ _ c.requires (pow_mono c.sbsz_log2.ensures.1) }

pub returns : goal.returns
returns c = ap (◌/◌ c.args.n) c.sbsz_log2.ensures.0
