use mathlib.Core.Path.{ap}
use native.Mathlib.Omega.{arith}
use Rattle.getbits.specs.declared.Place.{Place}
use Rattle.getbits.specs.Bits.{byte_pos}
use Rattle.getbits.proofs.byte_pos.Goals as goal

pub returns : goal.returns
unfolding byte_pos
returns c =
    let e = c.settle-q.ensures.0 in
    omega (arith, ap (λ (q : Place). q.byte) e, ap (λ (q : Place). q.used) e)
