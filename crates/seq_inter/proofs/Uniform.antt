-- The bound of a number that is read as one of max. Assumes nothing.
use mathlib.Core.Bool.{Bool, true, false}
use mathlib.Core.List.{List}
use Prim.Native.Nat.{ℕ, ◌≤◌, ◌<◌}
use Rattle.getbits.specs.declared.Place.{Place}
use Rattle.codes.specs.Codes.{uniform_if}
use Rattle.codes.proofs.Callers.{uniform_lt}

pub uniform_below : (sent : Bool) (s : List ℕ) (p : Place) (max : ℕ) → 1 ≤ max → (uniform_if sent s p max).value < max
unfolding uniform_if
uniform_below true s p max h = uniform_lt s p max h
uniform_below false s p max h = h
