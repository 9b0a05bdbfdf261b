-- Four numbers of a list. Assumes nothing.
use mathlib.Core.List.{List, [], ◌∷◌, ◌++◌}
use mathlib.Core.Path.{◌≡◌, refl, ap, ◌∙◌}
use Prim.Native.Nat.{ℕ, suc, ◌+◌, ◌≤◌}
use native.Mathlib.Omega.{arith}
use lib.ListN.{length, get_or, take, drop, length-drop}
use lib.Seq.{drop-cons, drop-append-le, take-append-le}

-- four numbers from the i-th on
pub four : (xs : List ℕ) (i : ℕ) → i + 4 ≤ length xs → take 4 (drop i xs) ≡ get_or xs i 0 ∷ get_or xs (i + 1) 0 ∷ get_or xs (i + 2) 0 ∷ get_or xs (i + 3) 0 ∷ []
four xs i h =
    let e1 : i + 1 ≡ suc i = omega arith in
    let e2 : i + 2 ≡ suc (suc i) = omega arith in
    let e3 : i + 3 ≡ suc (suc (suc i)) = omega arith in
    rw (drop-cons xs i 0 (omega arith), drop-cons xs (suc i) 0 (omega arith), drop-cons xs (suc (suc i)) 0 (omega arith), drop-cons xs (suc (suc (suc i))) 0 (omega arith), e1, e2, e3) refl

-- four numbers that stand before others
pub front : (xs ys : List ℕ) (i : ℕ) → i + 4 ≤ length xs → take 4 (drop i (xs ++ ys)) ≡ take 4 (drop i xs)
front xs ys i h = ap (take 4) (drop-append-le i xs ys (omega arith)) ∙ take-append-le 4 (drop i xs) ys (omega (arith, length-drop i xs))
