use mathlib.Core.Path.{sym, ◌∙◌}
use Rattle.getbits.proofs.Chain.{through}
use Rattle.seq_picture.specs.Picture.{skip_models}
use Rattle.seq_picture.proofs.skip_models.Goals as goal

pub returns : goal.returns
unfolding skip_models
returns c =
    sym (through _ _ c.flag_if-display.ensures
    ∙ through _ _ c.bits_if-delay.ensures
    ∙ through _ _ c.flag_if-decoder.ensures
    ∙ through _ _ c.bits_if-units.ensures
    ∙ through _ _ c.vlc_if-dec_buf.ensures
    ∙ through _ _ c.vlc_if-enc_buf.ensures)
