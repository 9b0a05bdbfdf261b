use mathlib.Core.Path.{◌∙◌, ap}
use Prim.Native.Nat.{ℕ, ◌+◌, ◌-◌, ◌/◌, ◌%◌, ◌^◌}
use native.Mathlib.Omega.{arith}
use Rattle.getbits.proofs.Fields.{shifts, four_field}
use Rattle.getbits.proofs.words.narrow.Goals as goal

pub returns : goal.returns
returns c =
    let a = c.args in
    shifts c.four_bytes_within.result a.used a.n 32 (omega arith) (omega arith)
    ∙ ap (λ (w : ℕ). w / 2 ^ (32 - (a.used + a.n)) % 2 ^ a.n) c.four_bytes_within.ensures.0
    ∙ four_field a.s.now a.byte a.used a.n (λ i. omega (arith, c.shared_slice_known-1.given i)) (omega arith) (omega arith)
