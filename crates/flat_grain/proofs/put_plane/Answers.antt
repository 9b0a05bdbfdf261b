use mathlib.Core.Path.{◌≡◌}
use borrow.Author.Rules.{rules}
use lib.ListN.{length}
use Rattle.flat_grain.proofs.put_plane.Goals as goal

pub returns : goal.returns
returns c =
    let count : length c.args.list.points ≡ 28 = search rules in
    rw count at c.put_bytes.ensures
