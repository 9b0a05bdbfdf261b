use mathlib.Core.Path.{sym, ◌∙◌}
use Rattle.getbits.proofs.Chain.{through}
use Rattle.seq_picture.specs.Level.{read_format}
use Rattle.seq_picture.proofs.read_format.Goals as goal

pub returns : goal.returns
unfolding read_format
returns c =
    sym (through _ _ c.layout_of-layout.ensures
    ∙ through _ _ c.get_vlc-depth.ensures
    ∙ sym (simp (c.ss_hor.ensures, c.ss_ver.ensures, c.hbd_of.ensures)))
