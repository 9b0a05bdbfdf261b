use native.Mathlib.Omega.{arith}
use Rattle.layout_bits.specs.Bits.{logs_code}
use Rattle.layout_row.proofs.Append.{both}
use Rattle.layout_row.proofs.put_logs.Goals as goal

pub put_log2_requires : goal.put_log2_requires
put_log2_requires c = omega (arith, c.put_log2-end.ensures.1, c.requires)

pub returns : goal.returns
unfolding logs_code
returns c = both c.put_log2-end.ensures.0 c.put_log2.ensures.0
