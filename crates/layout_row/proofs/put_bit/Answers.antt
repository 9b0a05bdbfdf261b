use Rattle.layout_row.proofs.Append.{one_more}
use Rattle.layout_row.proofs.put_bit.Goals as goal

pub returns : goal.returns
returns c =
    one_more c.args.row.now c.args.at c.args.bit c.with_bit.result c.requires.0 c.requires.1 c.with_bit.ensures
