use Rattle.std.proofs.Common.{div-le_self, arith}
use Rattle.superblocks.proofs.quotient.quotient_bits.Goals as goal

pub narrow_within_16_requires : goal.narrow_within_16_requires
narrow_within_16_requires c = (c.requires, omega arith, omega arith, omega arith, omega (arith, div-le_self c.args.n c.args.d), omega arith)
