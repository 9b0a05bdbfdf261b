use Rattle.std.proofs.Common.{◌≡◌, false, sym, ◌∙◌, arith, eqb-true}
use Rattle.superblocks.specs.Counts.{multiplier_of}
use Rattle.superblocks.proofs.Counts.{not_doubled}
use Rattle.superblocks.proofs.SeqSb.in_frame.Goals as goal

single : (c : goal.Else-doubles) → c.doubles.result ≡ false → multiplier_of c.args.pair.frame_code c.args.pair.seq_code ≡ 1
single c e = not_doubled _ _ (sym c.doubles.ensures ∙ e)

pub returns-then-doubles : goal.returns-then-doubles
returns-then-doubles c = rw (eqb-true _ 2 (sym c.doubles.ensures ∙ c.if-doubles.true)) (omega arith)

pub returns : goal.returns
returns c = rw (single c c.if-doubles.false) (omega arith)
