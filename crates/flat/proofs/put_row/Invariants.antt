use Rattle.std.proofs.Common.{◌≡◌, map}
use Rattle.flat.proofs.Rows.{Copied}
use Rattle.flat.proofs.put_row.Given as goal

abbrev pub invariant-loop-i : goal.invariant-loop-i
invariant-loop-i g l =
    (f : g.row.T.Denot → g.row.U.Denot) → ((x : g.row.T.Denot) (y : g.row.U.Denot) → g.U.From.from_gives x y → y ≡ f x) → Copied l.initial.out l.at (map f l.xs) l.out l.i
