-- The lines of the tiles. Assumes nothing.
use mathlib.Core.List.{List, [], ◌∷◌, ◌++◌, append_assoc}
use mathlib.Core.Path.{◌≡◌, sym, ap, ◌∙◌}
use Prim.Native.Nat.{ℕ, ◌*◌}
use native.Mathlib.Omega.{arith}
use lib.ListN.{take, drop}
use Rattle.rectangles.specs.Rectangles.{rectangle, each, rectangles}
use Rattle.rectangles.proofs.Each.{each_same}
use Rattle.rectangles.proofs.Four.{front}
use Rattle.rectangles.proofs.Places.{long, in_places}
use Rattle.text.specs.Text.{decimal, nexts, row, line, newline}
use Rattle.tile_layout.specs.declared.TileInfo.{TileInfo}

-- the first number, then a line of the others
pub in_parts : (x : ℕ) (xs : List ℕ) → decimal x ++ line ([] ++ nexts xs) ≡ line (row (x ∷ xs))
unfolding row
in_parts x xs = sym (append_assoc (decimal x) (nexts xs) (newline ∷ []))

-- a line for each four of the rectangles' numbers
pub lines_of : (t : TileInfo) (code w h : ℕ) (behind numbers : List ℕ) → numbers ≡ rectangles t code w h ++ behind
    → each (t.cols * t.rows) (λ k. line (row (take 4 (drop (4 * k) numbers)))) ≡ each t.rows (λ y. each t.cols (λ x. line (row (rectangle t code w h x y))))
lines_of t code w h behind numbers e =
    each_same _ _ (t.cols * t.rows) (λ k l. ap (λ (xs : List ℕ). line (row xs)) (ap (λ (xs : List ℕ). take 4 (drop (4 * k) xs)) e ∙ front (rectangles t code w h) behind (4 * k) (omega (arith, l, long t code w h))))
    ∙ in_places t code w h (λ xs. line (row xs))
