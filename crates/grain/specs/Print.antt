-- What the program grain prints: request #102.
use Rattle.std.specs.Prelude.{List, [], ◌∷◌, ◌++◌, ℕ}
use Prim.Native.String.{String}
use Rattle.answers.specs.Numbers.{number_of, is_refusal}
use Rattle.getbits.specs.Chain.{pick}
use Rattle.getbits.specs.declared.Place.{Place}
use Rattle.film_grain.specs.declared.FilmGrainData.{FilmGrainData}
use Rattle.film_grain.specs.declared.FilmGrainRead.{FilmGrainRead}
use Rattle.flat_grain.specs.Grain.{flat_film_grain}
use Rattle.program.specs.Output.{ok_text, refusal_text}
use Rattle.text.specs.Text.{word, filled, line, lines}
use Rattle.grain.specs.Request.{grain_request}

-- the line of a field with 28 numbers for each of three planes
unfoldable pub planes_line : String → List ℕ
planes_line name =
    line (word name
    ++ word " # # # # # # # # # # # # # # # # # # # # # # # # # # # #"
    ++ word " # # # # # # # # # # # # # # # # # # # # # # # # # # # #"
    ++ word " # # # # # # # # # # # # # # # # # # # # # # # # # # # #")

-- a line for each field in the order of declaration, its name and its values: each # is the next number of the record
unfoldable pub grain_text : FilmGrainData → List ℕ
grain_text fgd =
    filled
    (lines ("chroma_scaling_from_luma #" ∷ "num_points # # #" ∷ [])
    ++ planes_line "points"
    ++ lines ("scaling_shift #" ∷ "ar_coeff_lag #" ∷ [])
    ++ planes_line "ar_coeffs"
    ++ lines ("ar_coeff_shift #" ∷ "grain_scale_shift #" ∷ "uv_mult # #" ∷ "uv_luma_mult # #" ∷ "uv_offset # #" ∷ "overlap_flag #"
    ∷ "clip_to_restricted_range #" ∷ "mc_identity #" ∷ "block_size #" ∷ []))
    (flat_film_grain fgd) 0

-- accepted: ok, bits used, reader error; then the fields
unfoldable pub grain_accepted_text : FilmGrainData → Place → List ℕ
grain_accepted_text fgd next = ok_text next ++ grain_text fgd

-- what is printed of a reading: refused, no, the number, bits used, reader error; no 4 alone
unfoldable pub grain_read_text : FilmGrainRead → List ℕ
grain_read_text r =
    pick (is_refusal r.answer) (refusal_text (number_of r.answer) r.next) (grain_accepted_text r.fgd r.next)

-- what is printed of an input
unfoldable pub grain_input_text : List ℕ → List ℕ
grain_input_text s = grain_read_text (grain_request s)
