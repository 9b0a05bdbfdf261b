-- What the private functions answer. No public contract cites it.
use Rattle.std.specs.Prelude.{ℕ, Bool, List, [], ◌∷◌, ℤ, replicate}
use Rattle.answers.specs.declared.Answer.TheVariants.{Accepted}
use Rattle.getbits.specs.Chain.{pick}
use Rattle.getbits.specs.declared.Place.{Place}
use Rattle.film_grain.specs.Coeffs.{CoeffsRead}
use Rattle.film_grain.specs.Grain.{refused_grain}
use Rattle.film_grain.specs.Points.{PointLists, PointsRead}
use Rattle.film_grain.specs.declared.FilmGrainRead.{FilmGrainRead}
use Rattle.film_grain.specs.declared.GrainFields.{GrainFields}
use Rattle.film_grain.specs.declared.PlaneCoeffs.{PlaneCoeffs}
use Rattle.film_grain.specs.declared.PlanePoints.{PlanePoints}
use Rattle.film_grain.specs.declared.points.ListsEnd.{ListsEnd}
use Rattle.film_grain.specs.declared.points.PointsEnd.{PointsEnd}

-- the points of a plane whose list stands in lent bytes; that of a refused one counts as zeros
abbrev pub lent_points : PointsEnd → List ℕ → PointsRead
lent_points r points =
    record {
      refused = r.refused;
      num_points = r.num_points;
      base = r.base;
      list = record { points = pick r.refused (replicate 28 0) points };
      next = r.next;
    }

-- the points of the planes without the lists
abbrev pub lists_end : PointLists → ListsEnd
lists_end l = record { refused = l.refused; num_points = l.num_points; next = l.next }

-- a plane's coefficients that stand in lent bytes
abbrev pub lent_coeffs : List ℤ → Place → CoeffsRead
lent_coeffs coeffs p = record { list = record { coeffs = coeffs }; next = p }

-- the coefficients of luma and of both chroma planes, out of three lists
abbrev pub coeff_lists : List ℤ → List ℤ → List ℤ → List PlaneCoeffs
coeff_lists y u v = record { coeffs = y } ∷ record { coeffs = u } ∷ record { coeffs = v } ∷ []

-- the record of lists and of the fields behind them, out of its parts; refused where the reader's error is set
abbrev pub grain_read : Bool → List ℕ → List PlanePoints → List PlaneCoeffs → GrainFields → FilmGrainRead
grain_read from-luma num_points points ar-coeffs f =
    pick f.next.error (refused_grain f.next)
    (record {
      answer = Accepted;
      fgd = record {
        chroma_scaling_from_luma = from-luma;
        num_points = num_points;
        points = points;
        scaling_shift = f.scaling_shift;
        ar_coeff_lag = f.ar_coeff_lag;
        ar_coeffs = ar-coeffs;
        ar_coeff_shift = f.ar_coeff_shift;
        grain_scale_shift = f.grain_scale_shift;
        uv_mult = f.uv_mult;
        uv_luma_mult = f.uv_luma_mult;
        uv_offset = f.uv_offset;
        overlap_flag = f.overlap_flag;
        clip_to_restricted_range = f.clip_to_restricted_range;
        mc_identity = f.mc_identity;
        block_size = f.block_size;
      };
      next = f.next;
    })
