use mathlib.Core.List.{List, [], ◌∷◌, map-id}
use mathlib.Core.Path.{◌≡◌, refl}
use native.Mathlib.Omega.{arith}
use borrow.Author.Rules.{rules}
use lib.IntN.{ℤ}
use lib.ListN.{length}
use Rattle.flat_grain.specs.Grain.{flat_pair}
use Rattle.flat_grain.proofs.put_pair.Goals as goal

-- two numbers are a row of two
pair : (xs : List ℤ) → length xs ≡ 2 → xs ≡ flat_pair xs
pair [] h = absurd (omega arith)
pair (x ∷ []) h = absurd (omega arith)
pair (x ∷ y ∷ []) h = refl
pair (x ∷ y ∷ z ∷ xs) h = absurd (omega arith)

pub returns : goal.returns
returns c =
    let xs = c.args.xs in
    let count : length xs ≡ 2 = search rules in
    rw (← pair xs count) (rw (map-id xs, count) at (c.put_row.ensures.row (λ (x : ℤ). x) (λ x y h. h)))
