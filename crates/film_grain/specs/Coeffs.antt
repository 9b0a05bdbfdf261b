-- The coefficients of the planes and the chroma offsets of film grain: request #102.
use Rattle.std.specs.Prelude.{ℕ, ◌+◌, ◌-◌, ◌*◌, ◌^◌, Bool, true, false, ◌||◌, List, [], ◌∷◌, ℤ, pos, ◌-ℤ◌, get_or, set, replicate}
use Rattle.getbits.specs.Bits.{get_bits}
use Rattle.getbits.specs.Chain.{then, turns}
use Rattle.getbits.specs.declared.Place.{Place}
use Rattle.seq_fields.specs.Fields.{get_small, bit_of}
use Rattle.film_grain.specs.Points.{has_points}
use Rattle.film_grain.specs.declared.PlaneCoeffs.{PlaneCoeffs}
use Rattle.film_grain.specs.declared.coeffs.ChromaOffsets.{ChromaOffsets}
use Rattle.getbits.specs.declared.Read.{Read}
use Rattle.film_grain.specs.declared.coeffs.OffsetsRead.{OffsetsRead}

-- the coefficients of a plane
pub record CoeffsRead : Type 0 where
  pub list : PlaneCoeffs
  pub next : Place

-- the coefficients of the planes
pub record CoeffLists : Type 0 where
  pub ar_coeffs : List PlaneCoeffs
  pub next : Place

-- n bits less a number
unfoldable pub bits_less : List ℕ → Place → ℕ → ℕ → Read ℤ
bits_less s p n less = then (get_bits s p (pos n)) λ r. record { value = pos r.value -ℤ pos less; next = r.next }

-- a plane's coefficients of which none is read: zeros
abbrev pub no_coeffs : Place → CoeffsRead
no_coeffs p = record { list = record { coeffs = replicate 28 (pos 0) }; next = p }

-- coefficient i: its bits less half their range
unfoldable pub coeff : List ℕ → ℕ → ℕ → CoeffsRead → CoeffsRead
coeff s coef-bits i r =
    then (bits_less s r.next coef-bits (2 ^ (coef-bits - 1))) λ c.
    record { list = record { coeffs = set r.list.coeffs i c.value }; next = c.next }

-- n coefficients
unfoldable pub coeffs_from : List ℕ → Place → ℕ → ℕ → CoeffsRead
coeffs_from s p n coef-bits = turns n (coeff s coef-bits) (no_coeffs p)

-- the coefficients of a plane under a condition: two bits say their width, which is read even if n is 0; else zeros, and the place as it was
unfoldable pub coeffs_if : Bool → List ℕ → Place → ℕ → CoeffsRead
coeffs_if true s p n = then (get_small s p 2) λ b. coeffs_from s b.next n (5 + b.value)
coeffs_if false s p n = no_coeffs p

-- how many coefficients a lag gives
abbrev pub num_pos : ℕ → ℕ
num_pos lag = 2 * lag * (lag + 1)

-- the coefficients of the planes: luma's if it has points; a chroma plane's if it has points or is scaled from luma, and one more of them if
-- luma has points
unfoldable pub plane_coeffs : Bool → List ℕ → ℕ → List ℕ → Place → CoeffLists
plane_coeffs from-luma num_points lag s p =
    then (has_points (get_or num_points 0 0)) λ luma.
    then (num_pos lag) λ n.
    then (n + bit_of luma) λ chroma-n.
    then (coeffs_if luma s p n) λ y.
    then (coeffs_if (has_points (get_or num_points 1 0) || from-luma) s y.next chroma-n) λ u.
    then (coeffs_if (has_points (get_or num_points 2 0) || from-luma) s u.next chroma-n) λ v.
    record { ar_coeffs = y.list ∷ u.list ∷ v.list ∷ []; next = v.next }

-- the offsets of a chroma plane under a condition: else zeros, and the place as it was
unfoldable pub offsets_if : Bool → List ℕ → Place → OffsetsRead
offsets_if true s p =
    then (bits_less s p 8 128) λ mult.
    then (bits_less s mult.next 8 128) λ luma_mult.
    then (bits_less s luma_mult.next 9 256) λ offset.
    record { mult = mult.value; luma_mult = luma_mult.value; offset = offset.value; next = offset.next }
offsets_if false s p = record { mult = pos 0; luma_mult = pos 0; offset = pos 0; next = p }

-- the offsets of the chroma planes that have points
unfoldable pub chroma_offsets : List ℕ → List ℕ → Place → ChromaOffsets
chroma_offsets num_points s p =
    then (offsets_if (has_points (get_or num_points 1 0)) s p) λ u.
    then (offsets_if (has_points (get_or num_points 2 0)) s u.next) λ v.
    record {
      uv_mult = u.mult ∷ v.mult ∷ [];
      uv_luma_mult = u.luma_mult ∷ v.luma_mult ∷ [];
      uv_offset = u.offset ∷ v.offset ∷ [];
      next = v.next;
    }
