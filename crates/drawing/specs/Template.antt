-- A template with numbers in it.
use Rattle.std.specs.Prelude.{List, [], ◌∷◌, ℕ, ℤ, pos}
use Rattle.text.specs.Text.{filled}

unfoldable pub integers : List ℕ → List ℤ
integers [] = []
integers (x ∷ xs) = pos x ∷ integers xs

-- a template, each # of it replaced by the next of some numbers
abbrev pub marked : List ℕ → List ℕ → List ℕ
marked template xs = filled template (integers xs) 0
