-- What the program grain reads from its input: the number of a pixel layout, a byte, then the parameters' bytes.
use Rattle.std.specs.Prelude.{Bool, ◌&&◌, false, List, ℕ, leb, length, drop}
use Rattle.answers.specs.declared.Answer.TheVariants.{WrongArguments}
use Rattle.getbits.specs.Bits.{place_at}
use Rattle.getbits.specs.Chain.{pick}
use Rattle.program.specs.Input.{byte_at, is_input}
use Rattle.seq_fields.specs.Fields.{is_layout, layout_of}
use Rattle.film_grain.specs.Grain.{no_film_grain, parse_film_grain_data}
use Rattle.film_grain.specs.declared.FilmGrainRead.{FilmGrainRead}

-- a first byte of 0 to 3, and 65,536 bytes at most
abbrev pub is_grain_request : List ℕ → Bool
is_grain_request s = (leb 1 (length s) && is_input s) && is_layout (byte_at s 0)

-- the rest is read from its first bit; another input is 4
unfoldable pub grain_request : List ℕ → FilmGrainRead
grain_request s =
    pick (is_grain_request s)
    (parse_film_grain_data (drop 1 s) (place_at 0 false) (layout_of (byte_at s 0)))
    (record { answer = WrongArguments; fgd = no_film_grain; next = place_at 0 false })
