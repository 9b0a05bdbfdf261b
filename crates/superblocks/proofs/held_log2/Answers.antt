use Rattle.std.proofs.Common.{◌∙◌, ap₂, arith}
use Rattle.std.proofs.Math.Nat.{max_comm}
use Rattle.tile_layout.specs.Limits.{tile_log2}
use Rattle.superblocks.proofs.held_log2.Goals as goal

pub tile_log2-requires : goal.tile_log2-requires
tile_log2-requires c = (omega (arith, c.min.ensures, c.max.ensures), omega (arith, c.min.ensures))

pub returns : goal.returns
returns c = c.tile_log2.ensures ∙ ap₂ tile_log2 (c.max.ensures ∙ max_comm _ 1) c.min.ensures
