use Rattle.std.proofs.Common.{ℕ}
use mathlib.Core.Path.{ap}
use lib.Dec.{eqb}
use Rattle.getbits.specs.Bits.{get_flag}
use Rattle.getbits.specs.declared.Read.{Read}
use Rattle.getbits.proofs.get_flag.Goals as goal

pub returns : goal.returns
unfolding get_flag
returns c = ap (λ (b : Read ℕ). record { value = eqb b.value 1; next = b.next }) c.get_bit-b.ensures
