use mathlib.Core.Path.{sym}
use borrow.Author.Rules.{rules}
use lib.Seq.{length-take-le}
use Rattle.vectors.proofs.replay_header.Goals as goal

pub slice_bounds-store_row-end : goal.slice_bounds-store_row-end
slice_bounds-store_row-end c = sym (length-take-le _ _ (search rules))
