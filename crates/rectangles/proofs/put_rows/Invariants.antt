use mathlib.Core.List.{List, [], ◌∷◌}
use mathlib.Core.Path.{◌≡◌}
use Prim.Native.Nat.{ℕ}
use lib.Seq.{sets}
use Rattle.rectangles.specs.Rectangles.{edge, reach, each}
use Rattle.rectangles.proofs.put_rows.Given as goal

-- the tiles of a row, by the starts and a superblock's side
abbrev pub across : List ℕ → List ℕ → ℕ → ℕ → ℕ → ℕ → ℕ → List ℕ
across col-start-sb row-start-sb side w h cols row =
    each cols λ col. edge col-start-sb side w col ∷ edge row-start-sb side h row ∷ reach col-start-sb side w col ∷ reach row-start-sb side h row ∷ []

abbrev pub invariant-loop-row : goal.invariant-loop-row
invariant-loop-row l =
    l.out ≡ sets l.initial.out 0 (each l.row (across l.t.col_start_sb l.t.row_start_sb l.side l.w l.h l.t.cols))
