-- What every call hands back: a row of the answer's number, the position and the error's byte.
use Rattle.std.specs.Prelude.{ℕ, List, [], ◌∷◌}
use Rattle.answers.specs.Numbers.{number_of}
use Rattle.answers.specs.declared.Answer.{Answer}
use Rattle.answers.specs.declared.Answer.TheVariants.{ShortBuffer}
use Rattle.getbits.specs.declared.Place.{Place}
use Rattle.lent.specs.Lent.{lent_place}

-- an answer and the place after it, where the error's byte was `error`
abbrev pub answered : Answer → Place → ℕ → List ℕ
answered z p error = number_of z ∷ lent_place p error

-- a lent buffer is too short: 5, and the place stays as it was
abbrev pub too_short : ℕ → ℕ → List ℕ
too_short position error = number_of ShortBuffer ∷ position ∷ error ∷ []
