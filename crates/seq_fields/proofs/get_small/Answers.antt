use mathlib.Core.Path.{sym}
use native.Mathlib.Omega.{arith}
use Rattle.getbits.proofs.Chain.{through}
use Rattle.seq_fields.specs.Fields.{get_small}
use Rattle.seq_fields.proofs.Bounds.{bits_below}
use Rattle.seq_fields.proofs.get_small.Goals as goal

pub returns : goal.returns
unfolding get_small
returns c =
    let r = c.read_bits-r in
    record { is = sym (through _ _ r.ensures); below = omega (arith, bits_below _ _ _ r.ensures) }
