use mathlib.Core.Bool.{Bool, ◌&&◌}
use mathlib.Core.Path.{ap}
use lib.Dec.{leb}
use lib.ListN.{length}
use Rattle.tile_request.proofs.is_request.Goals as goal

pub returns : goal.returns
returns c = ap (λ (b : Bool). leb 8 (length c.args.s.now) && b) c.is_input.ensures
