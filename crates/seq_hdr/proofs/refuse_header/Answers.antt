use mathlib.Core.Path.{sym}
use Rattle.seq_hdr.specs.Header.{refused_header}
use Rattle.seq_hdr.proofs.refuse_header.Goals as goal

pub returns : goal.returns
unfolding refused_header
returns c =
    sym (sym (simp c.no_seq_hdr-hdr.ensures))
