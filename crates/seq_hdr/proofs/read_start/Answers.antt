use mathlib.Core.Path.{sym, ◌∙◌}
use Rattle.getbits.proofs.Chain.{through}
use Rattle.seq_hdr.specs.Header.{read_start}
use Rattle.seq_hdr.proofs.read_start.Goals as goal

pub returns : goal.returns
unfolding read_start
returns c =
    sym (through _ _ c.get_vlc-id.ensures
    ∙ through _ _ c.get_small-profile.ensures.is)
