use mathlib.Core.Path.{◌∙◌}
use native.Mathlib.Nat.{lt_of_lt_of_le}
use lib.Dec.{lit≤}
use Rattle.getbits.proofs.Widths.{back}
use Rattle.verdicts.proofs.Rows.{either_way}
use Rattle.verdicts.proofs.same.Goals as goal

pub returns : goal.returns
returns c =
    let a = c.args in
    let y = c.signed.result in
    let same = c.from-2.ensures ∙ back y c.signed.type_inv in
    rw (c.from.ensures, same)
    (either_way a.ours y a.stored c.ranges.ours (record { sfits = lt_of_lt_of_le c.signed.type_inv (lit≤ tt) }) c.ranges.stored c.signed.ensures)
