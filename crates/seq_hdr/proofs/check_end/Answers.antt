use mathlib.Core.Bool.{not}
use mathlib.Core.Path.{ap, ◌∙◌}
use Rattle.getbits.proofs.Chain.{through, taken, left}
use Rattle.seq_hdr.specs.Header.{check_trailing_bits}
use Rattle.seq_hdr.proofs.check_end.Goals as goal

pub returns-then-p : goal.returns-then-p
returns-then-p c = λ hdr. taken _ _ _ c.if-p.true

pub returns-then-not-strict : goal.returns-then-not-strict
unfolding check_trailing_bits
returns-then-not-strict c = λ hdr. left _ _ _ c.if-p.false ∙ taken _ _ _ (ap not c.if-not-strict.true)

pub returns-then-next-one : goal.returns-then-next-one
unfolding check_trailing_bits
returns-then-next-one c =
    λ hdr. left _ _ _ c.if-p.false
    ∙ left _ _ _ (ap not c.if-not-strict.false)
    ∙ through _ _ c.get_flag-extension.ensures
    ∙ through _ _ c.get_flag-one.ensures
    ∙ taken _ _ _ c.if-next-one.true

pub returns : goal.returns
unfolding check_trailing_bits
returns c =
    λ hdr. left _ _ _ c.if-p.false
    ∙ left _ _ _ (ap not c.if-not-strict.false)
    ∙ through _ _ c.get_flag-extension.ensures
    ∙ through _ _ c.get_flag-one.ensures
    ∙ left _ _ _ c.if-next-one.false
