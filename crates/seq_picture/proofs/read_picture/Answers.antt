use mathlib.Core.Path.{sym, ◌∙◌}
use Rattle.getbits.proofs.Chain.{through}
use Rattle.seq_picture.specs.Picture.{read_picture}
use Rattle.seq_picture.proofs.read_picture.Goals as goal

pub returns : goal.returns
unfolding read_picture
returns c =
    sym (through _ _ c.read_layers-layers.ensures.is
    ∙ through _ _ c.read_frame_size-size.ensures
    ∙ through _ _ c.read_crop-crop.ensures
    ∙ through _ _ c.skip_models-behind.ensures
    ∙ through _ _ c.read_dependencies-dependencies.ensures)
