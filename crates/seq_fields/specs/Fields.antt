-- What the groups of a sequence header share.
use Rattle.std.specs.Prelude.{ℕ, ◌%◌, List, Bool, true, false, eqb, leb, pos}
use Rattle.getbits.specs.Bits.{get_bits}
use Rattle.getbits.specs.Chain.{pick, then}
use Rattle.getbits.specs.declared.Place.{Place}
use Rattle.seq_fields.specs.declared.PixelLayout.{PixelLayout}
use Rattle.seq_fields.specs.declared.PixelLayout.TheVariants.{I400, I420, I422, I444}
use Rattle.getbits.specs.declared.Read.{Read}

-- get_bits(n) as u8: n bits, cut to eight
unfoldable pub get_small : List ℕ → Place → ℕ → Read ℕ
get_small s p n = then (get_bits s p (pos n)) λ r. record { value = r.value % 256; next = r.next }

-- the same under a condition: else 0, and the place as it was
unfoldable pub small_if : Bool → List ℕ → Place → ℕ → Read ℕ
small_if true s p n = get_small s p n
small_if false s p n = record { value = 0; next = p }

-- a flag as a number
abbrev pub bit_of : Bool → ℕ
bit_of true = 1
bit_of false = 0

-- is the layout without chroma?
abbrev pub is_mono : PixelLayout → Bool
is_mono I400 = true
is_mono I420 = false
is_mono I422 = false
is_mono I444 = false

-- layout 0 to 3, as the Rust numbers them
abbrev pub is_layout : ℕ → Bool
is_layout n = leb n 3

abbrev pub layout_of : ℕ → PixelLayout
layout_of n = pick (eqb n 0) I400 (pick (eqb n 1) I420 (pick (eqb n 2) I422 I444))
