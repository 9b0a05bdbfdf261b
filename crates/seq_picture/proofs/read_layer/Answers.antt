use mathlib.Core.Path.{sym, ◌∙◌}
use Rattle.getbits.proofs.Chain.{through}
use Rattle.seq_picture.specs.Picture.{layer}
use Rattle.seq_picture.proofs.read_layer.Goals as goal

pub returns : goal.returns
unfolding layer
returns c =
    sym (through _ _ c.small_if-bits.ensures.is
    ∙ sym (simp c.layer_mask.ensures))
