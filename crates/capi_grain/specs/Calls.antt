-- parse_film_grain_data over lent numbers.
use Rattle.std.specs.Prelude.{ℕ, List, leb, ℤ, length}
use Rattle.answers.specs.declared.Answer.TheVariants.{WrongArguments}
use Rattle.getbits.specs.Bits.{settled}
use Rattle.getbits.specs.Chain.{pick, then}
use Rattle.lent.specs.Calls.{answered, too_short}
use Rattle.lent.specs.Lent.{place_of}
use Rattle.seq_fields.specs.Fields.{is_layout, layout_of}
use Rattle.film_grain.specs.Grain.{parse_film_grain_data}
use Rattle.flat.specs.Layout.{over_front}
use Rattle.flat_grain.specs.Grain.{flat_film_grain}

-- a row of the answer's number, the position and the error's byte, and beside it the 186 lent numbers. Refused with 7 they are the zero record;
-- a layout's number that none has is 4, and then, and where there are too few numbers, they stay as they were
unfoldable pub lent_film_grain : List ℕ → ℕ → ℕ → ℕ → List ℤ → List ℕ × List ℤ
lent_film_grain s position error layout fgd =
    pick (leb 186 (length fgd))
    (pick (is_layout layout)
    (then (parse_film_grain_data s (place_of position error) (layout_of layout)) λ r.
    (answered r.answer r.next error, over_front 186 (flat_film_grain r.fgd) fgd))
    (answered WrongArguments (settled s (place_of position error)) error, fgd))
    (too_short position error, fgd)
