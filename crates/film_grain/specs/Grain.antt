-- parse_film_grain_data: request #102, in the Rust's reading order.
use Rattle.std.specs.Prelude.{ℕ, ◌+◌, Bool, true, false, not, ◌&&◌, ◌||◌, List, pos, get_or, replicate}
use Rattle.answers.specs.declared.Answer.TheVariants.{Accepted, InvalidFilmGrainData}
use Rattle.getbits.specs.Bits.{get_flag, flag_if}
use Rattle.getbits.specs.Chain.{pick, then}
use Rattle.getbits.specs.declared.Place.{Place}
use Rattle.seq_fields.specs.Fields.{get_small, is_mono}
use Rattle.seq_fields.specs.declared.PixelLayout.{PixelLayout}
use Rattle.seq_fields.specs.declared.PixelLayout.TheVariants.{I400, I420, I422, I444}
use Rattle.film_grain.specs.Coeffs.{plane_coeffs, chroma_offsets}
use Rattle.film_grain.specs.Points.{PointLists, has_points, point_lists}
use Rattle.film_grain.specs.declared.FilmGrainData.{FilmGrainData}
use Rattle.film_grain.specs.declared.FilmGrainRead.{FilmGrainRead}

-- the zero record
abbrev pub no_film_grain : FilmGrainData
no_film_grain =
    record {
      chroma_scaling_from_luma = false;
      num_points = replicate 3 0;
      points = replicate 3 (record { points = replicate 28 0 });
      scaling_shift = 0;
      ar_coeff_lag = 0;
      ar_coeffs = replicate 3 (record { coeffs = replicate 28 (pos 0) });
      ar_coeff_shift = 0;
      grain_scale_shift = 0;
      uv_mult = replicate 2 (pos 0);
      uv_luma_mult = replicate 2 (pos 0);
      uv_offset = replicate 2 (pos 0);
      overlap_flag = false;
      clip_to_restricted_range = false;
      mc_identity = false;
      block_size = 0;
    }

-- refused: 7, the zero record, and the reader where the reading stopped
abbrev pub refused_grain : Place → FilmGrainRead
refused_grain p = record { answer = InvalidFilmGrainData; fgd = no_film_grain; next = p }

-- is it I420?
abbrev pub is_i420 : PixelLayout → Bool
is_i420 I400 = false
is_i420 I420 = true
is_i420 I422 = false
is_i420 I444 = false

-- I420 only: is one chroma list empty and the other not?
abbrev pub one_list_empty : PixelLayout → List ℕ → Bool
one_list_empty layout num_points =
    let u = has_points (get_or num_points 1 0) in
    let v = has_points (get_or num_points 2 0) in
    is_i420 layout && ((u && not v) || (not u && v))

-- the fields behind the point lists; a reader error at the end is refused, also one that was set before
unfoldable pub grain_fields : Bool → List ℕ → PointLists → FilmGrainRead
grain_fields from-luma s lists =
    then (get_small s lists.next 2) λ scaling.
    then (get_small s scaling.next 2) λ lag.
    then (plane_coeffs from-luma lists.num_points lag.value s lag.next) λ coeffs.
    then (get_small s coeffs.next 2) λ shift.
    then (get_small s shift.next 2) λ scale.
    then (chroma_offsets lists.num_points s scale.next) λ uv.
    then (get_flag s uv.next) λ overlap.
    then (get_flag s overlap.next) λ clip.
    then (flag_if clip.value s clip.next) λ identity.
    then (get_small s identity.next 1) λ block.
    pick block.next.error (refused_grain block.next)
    (record {
      answer = Accepted;
      fgd = record {
        chroma_scaling_from_luma = from-luma;
        num_points = lists.num_points;
        points = lists.points;
        scaling_shift = 8 + scaling.value;
        ar_coeff_lag = lag.value;
        ar_coeffs = coeffs.ar_coeffs;
        ar_coeff_shift = 6 + shift.value;
        grain_scale_shift = scale.value;
        uv_mult = uv.uv_mult;
        uv_luma_mult = uv.uv_luma_mult;
        uv_offset = uv.uv_offset;
        overlap_flag = overlap.value;
        clip_to_restricted_range = clip.value;
        mc_identity = identity.value;
        block_size = block.value;
      };
      next = block.next;
    })

-- parse_film_grain_data: with chroma a flag says whether it is scaled from luma, and then it has no points of its own; the point lists, the
-- questions that they answer, and the other fields
unfoldable pub parse_film_grain_data : List ℕ → Place → PixelLayout → FilmGrainRead
parse_film_grain_data s p layout =
    then (not (is_mono layout)) λ chroma.
    then (flag_if chroma s p) λ from-luma.
    then (point_lists (chroma && not from-luma.value) s from-luma.next) λ lists.
    pick (lists.refused || one_list_empty layout lists.num_points) (refused_grain lists.next)
    (grain_fields from-luma.value s lists)
