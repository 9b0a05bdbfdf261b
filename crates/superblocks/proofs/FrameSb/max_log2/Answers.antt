use Rattle.std.proofs.Common.{ap, ◌∙◌}
use Rattle.tile_layout.specs.Limits.{tile_log2}
use Rattle.superblocks.proofs.FrameSb.max_log2.Goals as goal

pub returns : goal.returns
returns c = c.tile_log2.ensures ∙ ap (tile_log2 1) c.min.ensures
