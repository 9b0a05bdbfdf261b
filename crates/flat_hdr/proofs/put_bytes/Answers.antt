use lib.IntN.{pos}
use Rattle.flat_hdr.proofs.put_bytes.Goals as goal

pub returns : goal.returns
returns c = c.put_row.ensures.row pos (λ x y h. h)
