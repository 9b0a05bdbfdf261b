use Rattle.std.proofs.Common.{ℕ, ap, ◌∙◌, arith}
use Rattle.getbits.proofs.Callers.{as_read, read_none}
use Rattle.getbits.specs.declared.Read.{Read}
use Rattle.lent.specs.Lent.{lent_place}
use Rattle.lent.proofs.settle_place.Goals as goal

pub returns : goal.returns
returns c =
    let a = c.args in
    let here = as_read a.s.now c.place_of.result 0 (omega arith) c.read_bits-here.ensures ∙ read_none a.s.now c.place_of.result in
    c.put_place.ensures ∙ ap (λ (n : Read ℕ). lent_place n.next a.error.now) (rw c.place_of.ensures at here)
