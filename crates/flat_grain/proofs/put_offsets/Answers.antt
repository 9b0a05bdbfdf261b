use native.Mathlib.Omega.{arith}
use Rattle.flat.proofs.Rows.{both}
use Rattle.flat_grain.proofs.put_offsets.Goals as goal

pub returns : goal.returns
returns c =
    both (both c.put_pair-at.ensures c.put_pair-at-2.ensures (omega (arith, c.requires))) c.put_pair.ensures (omega (arith, c.requires))
