use mathlib.Core.Path.{ap, ◌∙◌}
use native.Mathlib.Omega.{arith}
use borrow.Author.Rules.{rules}
use Rattle.getbits.specs.declared.Place.{Place}
use Rattle.getbits.proofs.Callers.{width_in, width_over}
use Rattle.getbits.proofs.Places.{pos_le, read_short, read_at}
use Rattle.getbits.proofs.read_wide.Goals as goal

pub returns-then-n-gt32 : goal.returns-then-n-gt32
returns-then-n-gt32 c =
    let a = c.args in
    c.refuse.ensures ∙ width_over a.s.now a.p a.n (search rules)

pub returns-then-s-byte : goal.returns-then-s-byte
returns-then-s-byte c =
    let a = c.args in
    let at = c.settle-q.ensures.0 in
    c.exhausted.ensures
    ∙ read_short a.s.now a.p a.n (omega (arith, ap (λ (x : Place). x.byte) at, ap (λ (x : Place). x.used) at, pos_le a.s.now a.p))
    ∙ width_in a.s.now a.p a.n (search rules)

pub returns : goal.returns
returns c =
    let a = c.args in
    read_at a.s.now a.p c.settle-q.result a.n c.settle-q.ensures.0 (omega arith) c.peek.ensures
    ∙ width_in a.s.now a.p a.n (search rules)
