use mathlib.Core.Path.{◌∙◌, ap}
use Prim.Native.Nat.{ℕ, ◌-◌, ◌*◌, ◌%◌, ◌^◌}
use native.Mathlib.Omega.{arith}
use lib.ListN.{length}
use Rattle.getbits.proofs.Fields.{bytes_back}
use Rattle.getbits.proofs.words.eight_bytes_near_end.Goals as goal

pub returns-then-s-ge8 : goal.returns-then-s-ge8
returns-then-s-ge8 c =
    let a = c.args in
    let left = length a.s.now - a.i in
    ap (λ (w : ℕ). w * 2 ^ 8 % 2 ^ 64 * 2 ^ (8 * (7 - left)) % 2 ^ 64) c.eight_bytes_within.ensures
    ∙ bytes_back a.s.now a.i left (8 * (7 - left)) (λ i. omega (arith, c.shared_slice_known-1.given i)) (omega arith) (omega arith) (omega arith)
