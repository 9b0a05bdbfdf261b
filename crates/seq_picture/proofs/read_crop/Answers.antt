use mathlib.Core.Path.{sym, ◌∙◌}
use Rattle.getbits.proofs.Chain.{through}
use Rattle.seq_picture.specs.Picture.{read_crop}
use Rattle.seq_picture.proofs.read_crop.Goals as goal

pub returns : goal.returns
unfolding read_crop
returns c =
    sym (through _ _ c.get_flag-enabled.ensures
    ∙ through _ _ c.vlc_if-left.ensures
    ∙ through _ _ c.vlc_if-right.ensures
    ∙ through _ _ c.vlc_if-top.ensures
    ∙ through _ _ c.vlc_if-bottom.ensures)
