use mathlib.Core.Path.{◌≡◌, sym, ◌∙◌}
use native.Mathlib.Omega.{arith}
use lib.ListN.{get_or, take}
use lib.Seq.{get_or-take}
use Rattle.getbits.proofs.Chain.{taken, left}
use Rattle.superblocks.proofs.Counts.{not_doubled}
use Rattle.frame_layout.proofs.Usable.{start_low}
use Rattle.frame_hdr.proofs.reuse.closing_entry.Goals as goal

pub returns-then-doubles : goal.returns-then-doubles
returns-then-doubles c = sym (taken _ _ _ (sym c.doubles.ensures ∙ c.if-doubles.true))

pub returns : goal.returns
returns c =
    let a = c.args in
    let starts = take 65 a.starts.now in
    let e = sym c.doubles.ensures ∙ c.if-doubles.false in
    let g : c.seq_start.result.0 ≡ get_or starts a.tiles 0 = c.seq_start.ensures ∙ sym (get_or-take 65 a.starts.now a.tiles 0 (omega (arith, c.requires.0))) in
    let f = rw (not_doubled a.pair.frame_code a.pair.seq_code e, g) at c.in_frame.ensures in
    omega (arith, f, start_low starts a.tiles a.tiles c.requires.1 (omega arith)) ∙ sym (left _ _ _ e)
