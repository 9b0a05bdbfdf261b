-- Film grain parameters as flat numbers: the record's fields in the order of its declaration.
use Rattle.std.specs.Prelude.{ℕ, ◌+◌, ◌*◌, ◌<◌, List, [], ◌∷◌, ◌++◌, map, ◌≡◌, ℤ, pos, nat_abs, get_or, take, drop}
use Rattle.seq_fields.specs.Fields.{bit_of}
use Rattle.film_grain.specs.Promises.{num_points, points_of}
use Rattle.film_grain.specs.declared.FilmGrainData.{FilmGrainData}
use Rattle.film_grain.specs.declared.PlaneCoeffs.{PlaneCoeffs}
use Rattle.film_grain.specs.declared.PlanePoints.{PlanePoints}

-- the flag of the scaling, and the number of points of each plane
abbrev pub flat_head : FilmGrainData → List ℤ
flat_head fgd =
    map pos (bit_of fgd.chroma_scaling_from_luma
    ∷ get_or fgd.num_points 0 0
    ∷ get_or fgd.num_points 1 0
    ∷ get_or fgd.num_points 2 0
    ∷ [])

-- the points of plane pl: position and value of each
abbrev pub flat_plane : List PlanePoints → ℕ → List ℤ
flat_plane points pl = map pos (get_or points pl (record { points = [] })).points

-- the points of all planes
abbrev pub flat_points : List PlanePoints → List ℤ
flat_points points = flat_plane points 0 ++ flat_plane points 1 ++ flat_plane points 2

-- the coefficients of plane pl
abbrev pub plane_of : List PlaneCoeffs → ℕ → List ℤ
plane_of coeffs pl = (get_or coeffs pl (record { coeffs = [] })).coeffs

-- the coefficients of all planes
abbrev pub flat_coeffs : List PlaneCoeffs → List ℤ
flat_coeffs coeffs = plane_of coeffs 0 ++ plane_of coeffs 1 ++ plane_of coeffs 2

-- two numbers
abbrev pub flat_pair : List ℤ → List ℤ
flat_pair xs = get_or xs 0 (pos 0) ∷ get_or xs 1 (pos 0) ∷ []

-- the chroma offsets
abbrev pub flat_offsets : FilmGrainData → List ℤ
flat_offsets fgd = flat_pair fgd.uv_mult ++ flat_pair fgd.uv_luma_mult ++ flat_pair fgd.uv_offset

-- the last fields
abbrev pub flat_tail : FilmGrainData → List ℤ
flat_tail fgd =
    map pos (bit_of fgd.overlap_flag ∷ bit_of fgd.clip_to_restricted_range ∷ bit_of fgd.mc_identity ∷ fgd.block_size ∷ [])

-- the whole record, 186 numbers
unfoldable pub flat_film_grain : FilmGrainData → List ℤ
flat_film_grain fgd = flat_head fgd
    ++ flat_points fgd.points
    ++ map pos (fgd.scaling_shift ∷ fgd.ar_coeff_lag ∷ [])
    ++ flat_coeffs fgd.ar_coeffs
    ++ map pos (fgd.ar_coeff_shift ∷ fgd.grain_scale_shift ∷ [])
    ++ flat_offsets fgd
    ++ flat_tail fgd

-- the number of points of plane pl among the numbers of a record, and the list
abbrev pub num_points_in : List ℤ → ℕ → ℕ
num_points_in xs pl = nat_abs (get_or xs (1 + pl) (pos 0))

abbrev pub points_in : List ℤ → ℕ → PlanePoints
points_in xs pl = record { points = map nat_abs (take 28 (drop (4 + 28 * pl) xs)) }

-- numbers that have the point lists of a record
pub record HasLists (xs : List ℤ) (fgd : FilmGrainData) : Type 0 where
  pub count : (pl : ℕ) → pl < 3 → num_points_in xs pl ≡ num_points fgd pl
  pub list : (pl : ℕ) → pl < 3 → points_in xs pl ≡ points_of fgd pl
