use mathlib.Core.Path.{ap}
use mathlib.Core.Bool.{true}
use Rattle.getbits.specs.declared.Place.{Place}
use Rattle.getbits.proofs.refuse.Goals as goal

pub returns : goal.returns
returns c = ap (λ (q : Place). record { value = 0; next = record { byte = q.byte; used = q.used; error = true } }) c.settle-q.ensures.0
