use native.Mathlib.Omega.{arith}
use borrow.Author.Rules.{rules}
use lib.ListN.{get_or}
use Prim.Native.Nat.{◌+◌}
use Rattle.rectangles.proofs.Rising.{edge_le}
use Rattle.rectangles.proofs.span_of.Goals as goal

pub overflow_sub_result : goal.overflow_sub_result
overflow_sub_result c =
    omega (arith, edge_le (get_or c.args.starts.now c.args.i 0) (get_or c.args.starts.now (c.args.i + 1) 0) c.args.side c.args.most c.requires.0, c.edge_at-begin.ensures, c.edge_at-end.ensures)

pub returns : goal.returns
returns c = search rules
