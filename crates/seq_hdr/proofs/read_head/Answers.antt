use mathlib.Core.Path.{refl, sym, ◌∙◌}
use Rattle.answers.specs.declared.Answer.TheVariants.{InvalidSequenceHeader}
use Rattle.getbits.proofs.Chain.{through, taken, left}
use Rattle.seq_hdr.specs.Header.{read_head}
use Rattle.seq_hdr.proofs.Into.{head_not_put}
use Rattle.seq_hdr.proofs.read_head.Goals as goal

pub returns-then-unknown_profile : goal.returns-then-unknown_profile
unfolding read_head
returns-then-unknown_profile c =
    record {
      is = sym (through _ _ c.read_start-start.ensures ∙ taken _ _ _ (sym c.unknown_profile.ensures ∙ c.if-unknown_profile.true) ∙ sym c.refuse_header.ensures);
      numbers = head_not_put InvalidSequenceHeader _ refl c.refuse_header.ensures (λ _. refl);
    }

pub returns-then-above : goal.returns-then-above
unfolding read_head
returns-then-above c =
    record {
      is = sym (through _ _ c.read_start-start.ensures
          ∙ left _ _ _ (sym c.unknown_profile.ensures ∙ c.if-unknown_profile.false)
          ∙ through _ _ c.read_level-level.ensures
          ∙ taken _ _ _ (sym c.above.ensures ∙ c.if-above.true)
          ∙ sym c.refuse_header-then-above.ensures);
      numbers = head_not_put InvalidSequenceHeader _ refl c.refuse_header-then-above.ensures (λ _. refl);
    }

pub returns-then-above-2 : goal.returns-then-above-2
unfolding read_head
returns-then-above-2 c =
    record {
      is = sym (through _ _ c.read_start-start.ensures
          ∙ left _ _ _ (sym c.unknown_profile.ensures ∙ c.if-unknown_profile.false)
          ∙ through _ _ c.read_level-level.ensures
          ∙ left _ _ _ (sym c.above.ensures ∙ c.if-above.false)
          ∙ through _ _ c.read_format-format.ensures
          ∙ taken _ _ _ (sym c.above-2.ensures ∙ c.if-above-2.true)
          ∙ sym c.refuse_header-then-above-2.ensures);
      numbers = head_not_put InvalidSequenceHeader _ refl c.refuse_header-then-above-2.ensures (λ _. refl);
    }

pub returns : goal.returns
unfolding read_head
returns c =
    record {
      is = sym (through _ _ c.read_start-start.ensures
          ∙ left _ _ _ (sym c.unknown_profile.ensures ∙ c.if-unknown_profile.false)
          ∙ through _ _ c.read_level-level.ensures
          ∙ left _ _ _ (sym c.above.ensures ∙ c.if-above.false)
          ∙ through _ _ c.read_format-format.ensures
          ∙ left _ _ _ (sym c.above-2.ensures ∙ c.if-above-2.false)
          ∙ sym c.read_groups.ensures.is);
      numbers = c.read_groups.ensures.numbers;
    }
