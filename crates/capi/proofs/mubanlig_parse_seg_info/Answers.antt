use mathlib.Core.Path.{refl, sym, ◌∙◌}
use borrow.Author.Tests.{le-leb, lt-leb}
use lib.Dec.{leb}
use lib.ListN.{length}
use Rattle.answers.specs.declared.Answer.TheVariants.{Accepted}
use Rattle.getbits.proofs.Chain.{through, taken, left, both_hold}
use Rattle.capi.specs.Calls.{lent_seg_info}
use Rattle.lent.proofs.Calls.{row, triple, first_fails, second_fails}
use Rattle.capi.proofs.mubanlig_parse_seg_info.Goals as goal

pub returns-then-delta_q-lt16 : goal.returns-then-delta_q-lt16
unfolding lent_seg_info
returns-then-delta_q-lt16 c =
    let a = c.args in
    let fails = first_fails _ (leb 3 (length a.masks.now)) (lt-leb 16 (length a.delta_q.now) c.if-delta_q-lt16.true) in
    record {
      masks_after = sym (left _ _ _ fails);
      delta_q_unchanged = λ _. refl;
      masks_unchanged = λ _. refl;
    }

pub returns-then-masks-lt3 : goal.returns-then-masks-lt3
unfolding lent_seg_info
returns-then-masks-lt3 c =
    let a = c.args in
    let fails = second_fails (leb 16 (length a.delta_q.now)) _ (lt-leb 3 (length a.masks.now) c.if-masks-lt3.true) in
    record {
      masks_after = sym (left _ _ _ fails);
      delta_q_unchanged = λ _. refl;
      masks_unchanged = λ _. refl;
    }

pub returns : goal.returns
unfolding lent_seg_info
returns c =
    let a = c.args in
    let x = c.parse_seg_info-r.result in
    let read = rw (c.place_of-p.ensures, c.seg_info_of-seg.ensures, c.is_set.ensures) at c.parse_seg_info-r.ensures in
    let room = both_hold (le-leb 16 (length a.delta_q.now) c.if-delta_q-lt16.false) (le-leb 3 (length a.masks.now) c.if-masks-lt3.false) in
    record {
      masks_after = triple (row Accepted x.next a.error.now refl c.put_place.ensures) c.put_delta_q.ensures c.put_masks.ensures ∙ sym (taken _ _ _ room ∙ through _ _ read);
      delta_q_unchanged = λ h. absurd (h refl);
      masks_unchanged = λ h. absurd (h refl);
    }
