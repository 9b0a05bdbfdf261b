use Rattle.std.proofs.Common.{ℕ}
use mathlib.Core.Path.{◌∙◌, ap}
use native.Mathlib.Omega.{arith}
use Rattle.getbits.proofs.Callers.{as_read, read_none}
use Rattle.getbits.specs.declared.Read.{Read}
use Rattle.tile_info.proofs.unread.Goals as goal

pub returns : goal.returns
returns c =
    let a = c.args in
    ap (λ (r : Read ℕ). record { answer = a.answer; next = r.next }) (as_read a.s.now a.p 0 (omega arith) c.read_bits-here.ensures ∙ read_none a.s.now a.p)
