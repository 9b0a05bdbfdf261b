use Rattle.std.proofs.Common.{ap, ◌∙◌}
use Rattle.lent.specs.Lent.{position_of}
use Rattle.capi_bits.proofs.mubanlig_bytealign.Goals as goal

pub returns : goal.returns
returns c = c.position_of.ensures ∙ ap position_of (rw c.place_at.ensures at c.bytealign.ensures)
