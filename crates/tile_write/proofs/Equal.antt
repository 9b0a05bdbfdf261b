-- What `==` says of two layouts, as the definitions have it. Assumes nothing.
use mathlib.Core.Bool.{Bool, true, false, ◌&&◌, beq}
use mathlib.Core.List.{List, [], ◌∷◌}
use mathlib.Core.Path.{◌≡◌, refl, ap}
use Prim.Native.Nat.{ℕ}
use lib.Dec.{eqb}
use lib.Pointwise.{pointwise}
use Rattle.layout_writing.specs.Write.{same_flag, same_list}

pub flags : (a b : Bool) → beq a b ≡ same_flag a b
flags true true = refl
flags true false = refl
flags false true = refl
flags false false = refl

pub lists : (xs ys : List ℕ) → pointwise eqb xs ys ≡ same_list xs ys
unfolding same_list
lists [] [] = refl
lists [] (y ∷ ys) = refl
lists (x ∷ xs) [] = refl
lists (x ∷ xs) (y ∷ ys) = ap (λ (b : Bool). eqb x y && b) (lists xs ys)
