use Rattle.std.proofs.Common.{◌≡◌, ℕ, ◌+◌, ◌^◌, ◌<◌, ◌≤◌, List, pos, sym}
use native.Mathlib.Omega.{arith}
use lib.Pow.{pow_mono}
use mir.Syntax.{w32}
use mir.ValLaws.{to_z_pos}
use Rattle.getbits.specs.Bits.{get_bits}
use Rattle.getbits.specs.declared.Place.{Place}
use Rattle.getbits.specs.declared.Read.{Read}
use Rattle.getbits.proofs.Chain.{through}
use Rattle.seq_fields.proofs.Bounds.{bits_below}
use Rattle.seq_picture.specs.Picture.{read_length}
use Rattle.seq_picture.proofs.read_length.Goals as goal

-- at most 16 bits
short : (s : List ℕ) (p : Place) {n : ℕ} {r : Read ℕ} → n ≤ 16 → r ≡ get_bits s p (pos n) → r.value < 2 ^ 16
short _ _ {n = n} h e = omega (arith, bits_below _ _ _ e, pow_mono {i = n} {j = 16} h)

pub overflow_cast-result : goal.overflow_cast-result
overflow_cast-result c = record { sfits = omega (arith, short _ _ c.requires c.read_bits-r.ensures) }

pub returns : goal.returns
unfolding read_length
returns c =
    let h : c.read_bits-r.result.value + 1 < 2 ^ 31 = omega (arith, short _ _ c.requires c.read_bits-r.ensures) in
    rw (to_z_pos w32 _ h) (sym (through _ _ c.read_bits-r.ensures))

pub overflow_add-result : goal.overflow_add-result
overflow_add-result c = omega (arith, short _ _ c.requires c.read_bits-r.ensures)
