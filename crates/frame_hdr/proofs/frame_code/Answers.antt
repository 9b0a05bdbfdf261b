use mathlib.Core.Bool.{Bool, true, false, not}
use mathlib.Core.Path.{◌≡◌, refl, sym, ◌∙◌}
use mir.Val.{bool_byte}
use lib.Dec.{eqb}
use Rattle.getbits.specs.Chain.{pick}
use borrow.Author.Rules.{rules}
use Rattle.getbits.proofs.Chain.{left}
use Rattle.frame_layout.specs.Frame.{frame_code}
use Rattle.frame_hdr.proofs.frame_code.Goals as goal

pub returns-then-is_inter_or_switch : goal.returns-then-is_inter_or_switch
unfolding frame_code
returns-then-is_inter_or_switch c = search rules

one_unless : (t : Bool) → bool_byte (not t) ≡ pick t 0 1
one_unless true = refl
one_unless false = refl

pub returns : goal.returns
unfolding frame_code
returns c =
    c.from.ensures ∙ one_unless (eqb c.args.seq_sb128 0) ∙ sym (left _ _ _ (sym c.is_inter_or_switch.ensures ∙ c.if-is_inter_or_switch.false))
