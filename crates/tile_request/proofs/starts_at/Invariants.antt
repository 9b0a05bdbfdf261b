use mathlib.Core.List.{List}
use mathlib.Core.Path.{◌≡◌}
use Prim.Native.Nat.{ℕ, ◌+◌, ◌*◌}
use Rattle.program.specs.Input.{two_at}
use Rattle.tile_layout.specs.Layout.{tabulate, padded}
use Rattle.tile_request.proofs.starts_at.Given as goal

-- the k-th start
abbrev pub start : List ℕ → ℕ → ℕ → ℕ
start s i k = two_at s (i + 2 * k)

abbrev pub invariant-loop-k : goal.invariant-loop-k
invariant-loop-k l = (l.starts ≡ padded (tabulate (start l.s l.i) 0 l.k))
