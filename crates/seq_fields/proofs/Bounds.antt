-- The bound of a reading. Assumes nothing.
use mathlib.Core.Path.{◌≡◌, subst⁻¹}
use mathlib.Core.List.{List}
use Prim.Native.Nat.{ℕ, ◌^◌, ◌<◌}
use lib.Dec.{leb}
use lib.IntN.{pos}
use lib.Pow.{pow_pos}
use Rattle.getbits.specs.Bits.{read_bits, get_bits, refused}
use Rattle.getbits.specs.declared.Read.{Read}
use Rattle.getbits.specs.declared.Place.{Place}
use Rattle.getbits.proofs.Chain.{picked}
use Rattle.getbits.proofs.Callers.{read_lt}

-- n bits give a number below 2 ^ n, whatever n is
pub bits_below : (s : List ℕ) (p : Place) (n : ℕ) {r : Read ℕ} → r ≡ get_bits s p (pos n) → r.value < 2 ^ n
unfolding get_bits
bits_below s p n e =
    subst⁻¹ (λ (r : Read ℕ). r.value < 2 ^ n) e
    (picked (λ (r : Read ℕ). r.value < 2 ^ n) (leb n 32) (read_bits s p n) (refused s p) (λ _. read_lt s p n) (λ _. pow_pos n))
