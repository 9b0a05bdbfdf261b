-- What the programs print alike: the first line of a layout, a line of starts, the line of a refusal, a reader's place, and which of two texts.
use Rattle.std.specs.Prelude.{Bool, List, [], ◌∷◌, ◌++◌, ℕ, eqb, length, take, drop}
use Rattle.getbits.specs.Chain.{pick}
use Rattle.getbits.specs.declared.Place.{Place}
use Rattle.lent.specs.Lent.{position_of}
use Rattle.text.specs.Text.{word, nexts, row, line}
use Rattle.program.specs.Input.{byte_at}

-- accepted: ok, U or N, and numbers
unfoldable pub accepted_text : Bool → List ℕ → List ℕ
accepted_text uniform xs = line (pick uniform (word "ok U") (word "ok N") ++ nexts xs)

-- the first n starts in a line
abbrev pub starts_text : List ℕ → ℕ → List ℕ
starts_text starts n = line (row (take n starts))

-- refused: no and the number
unfoldable pub refused_text : ℕ → List ℕ
refused_text n = line (word "no" ++ nexts (n ∷ []))

-- bits used, reader error 0 or 1
abbrev pub place_numbers : Place → List ℕ
place_numbers next = position_of next ∷ pick next.error 1 0 ∷ []

-- an accepted record: ok, bits used, reader error
unfoldable pub ok_text : Place → List ℕ
ok_text next = line (word "ok" ++ nexts (place_numbers next))

-- a refused one: no, the number, bits used, reader error; no 4 alone
unfoldable pub refusal_text : ℕ → Place → List ℕ
refusal_text n next = pick (eqb n 4) (refused_text n) (line (word "no" ++ nexts (n ∷ place_numbers next)))

-- a byte says whose input is meant, and so which of two texts is printed: 0 tile's, 1 frame's; another is 4
unfoldable pub chosen_text : ℕ → List ℕ → List ℕ → List ℕ
chosen_text first tile frame = pick (eqb first 0) tile (pick (eqb first 1) frame (refused_text 4))

-- it is the first byte, and the rest is that input, of which each text is made; no first byte is 4
unfoldable pub either_text : (List ℕ → List ℕ) → (List ℕ → List ℕ) → List ℕ → List ℕ
either_text tile frame s = pick (eqb (length s) 0) (refused_text 4) (chosen_text (byte_at s 0) (tile (drop 1 s)) (frame (drop 1 s)))
