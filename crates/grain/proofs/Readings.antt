-- The refusals, computed. Assumes nothing.
use mathlib.Core.List.{[], ◌∷◌}
use mathlib.Core.Path.{◌≡◌, refl}
use Rattle.getbits.specs.Chain.{then, turns}
use Rattle.getbits.specs.Bits.{bits_at, position, read_bits, get_bit, get_bits, get_flag, flag_if}
use Rattle.seq_fields.specs.Fields.{get_small}
use Rattle.film_grain.specs.Points.{point, points_from, plane_points, points_if, point_lists}
use Rattle.film_grain.specs.Coeffs.{coeffs_if, plane_coeffs, offsets_if, chroma_offsets}
use Rattle.film_grain.specs.Grain.{grain_fields, parse_film_grain_data}
use Rattle.text.specs.Text.{word, decimal, decimal_in, nexts}
use Rattle.program.specs.Output.{refused_text, refusal_text}
use Rattle.grain.specs.Request.{grain_request}
use Rattle.grain.specs.Print.{grain_read_text, grain_input_text}

-- I400: 15 points; two points whose second position is 256; no data. I420: one chroma list empty and the other not
refusals :
    (grain_input_text (0 ∷ 0xF0 ∷ []) ≡ word "no 7 4 0\n")
    × (grain_input_text (0 ∷ 0x2E ∷ 0x7F ∷ 0x80 ∷ 0x04 ∷ []) ≡ word "no 7 30 0\n")
    × (grain_input_text (0 ∷ []) ≡ word "no 7 0 1\n")
    × (grain_input_text (1 ∷ 0x00 ∷ 0x80 ∷ 0x00 ∷ []) ≡ word "no 7 24 0\n")
    × (grain_input_text (1 ∷ 0x00 ∷ 0x08 ∷ 0x00 ∷ []) ≡ word "no 7 24 0\n")
unfolding then turns bits_at position read_bits get_bit get_bits get_flag flag_if get_small point points_from plane_points points_if point_lists
    coeffs_if plane_coeffs offsets_if chroma_offsets grain_fields parse_film_grain_data word decimal decimal_in nexts refusal_text
    grain_request grain_read_text grain_input_text
refusals = (refl, refl, refl, refl, refl)

-- no layout, and one that there is not
others : (grain_input_text [] ≡ word "no 4\n") × (grain_input_text (4 ∷ []) ≡ word "no 4\n")
unfolding word decimal decimal_in nexts refused_text refusal_text grain_request grain_read_text grain_input_text
others = (refl, refl)
