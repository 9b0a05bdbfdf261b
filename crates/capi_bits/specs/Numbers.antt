-- What a reading hands back over a lent place, as a row: its answer, the position, the error's byte.
use Rattle.std.specs.Prelude.{ℕ, List, ◌∷◌, map, ℤ, pos}
use Rattle.getbits.specs.declared.Read.{Read}
use Rattle.lent.specs.Lent.{lent_place}

-- a number, and the place after it, to a caller whose error's byte was `error`
abbrev pub lent_number : Read ℕ → ℕ → List ℕ
lent_number r error = r.value ∷ lent_place r.next error

-- the same of a signed number
abbrev pub lent_signed : Read ℤ → ℕ → List ℤ
lent_signed r error = r.value ∷ map pos (lent_place r.next error)
