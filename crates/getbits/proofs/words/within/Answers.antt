use mathlib.Core.Path.{◌∙◌, ap}
use Prim.Native.Nat.{ℕ, ◌+◌, ◌-◌, ◌/◌, ◌%◌, ◌^◌}
use native.Mathlib.Omega.{arith}
use Rattle.getbits.proofs.Fields.{bytes_field}
use Rattle.getbits.proofs.words.within.Goals as goal

pub returns : goal.returns
returns c =
    let a = c.args in
    c.field.ensures
    ∙ ap (λ (w : ℕ). w / 2 ^ (64 - (a.used + a.n)) % 2 ^ a.n) c.eight_bytes_within.ensures
    ∙ bytes_field a.s.now a.byte a.used a.n (λ i. omega (arith, c.shared_slice_known-1.given i)) (omega arith) (omega arith)
