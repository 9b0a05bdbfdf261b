use mathlib.Core.Path.{refl, sym, ◌∙◌}
use native.Mathlib.Omega.{arith}
use borrow.Author.Tests.{le-leb, lt-leb}
use lib.ListN.{length}
use Rattle.answers.specs.declared.Answer.TheVariants.{WrongArguments}
use Rattle.getbits.specs.Bits.{settled}
use Rattle.getbits.proofs.Chain.{through, taken, left}
use Rattle.lent.proofs.Calls.{row, pair}
use Rattle.lent.specs.Lent.{place_of}
use Rattle.seq_fields.specs.Fields.{layout_of}
use Rattle.film_grain.proofs.Refused.{Outcome, grain_outcome}
use Rattle.capi_grain.specs.Calls.{lent_film_grain}
use Rattle.capi_grain.proofs.Left.{never, zeros_left, lists_left}
use Rattle.capi_grain.proofs.mubanlig_parse_film_grain_data.Goals as goal

pub returns-then-fgd-lt186 : goal.returns-then-fgd-lt186
unfolding lent_film_grain
returns-then-fgd-lt186 c =
    let a = c.args in
    let short = lt-leb 186 (length a.fgd.now) c.if-fgd-lt186.true in
    record {
      fgd_after = sym (left _ _ _ short);
      fgd_unchanged_at_4 = λ _. refl;
      fgd_unchanged_at_5 = λ _. refl;
      zeros_at_7 = λ h. absurd (omega arith);
      lists_left = λ h. absurd (omega arith);
    }

pub returns-then-layout-gt3 : goal.returns-then-layout-gt3
unfolding lent_film_grain
returns-then-layout-gt3 c =
    let a = c.args in
    let room = le-leb 186 (length a.fgd.now) c.if-fgd-lt186.false in
    record {
      fgd_after = pair (row WrongArguments (settled a.s.now (place_of a.position.now a.error.now)) a.error.now refl c.settle_place.ensures) refl ∙ sym (taken _ _ _ room ∙ left _ _ _ (lt-leb a.layout 3 c.if-layout-gt3.true));
      fgd_unchanged_at_4 = λ _. refl;
      fgd_unchanged_at_5 = λ _. refl;
      zeros_at_7 = λ h. absurd (omega arith);
      lists_left = λ h. absurd (omega arith);
    }

pub returns : goal.returns
unfolding lent_film_grain
returns c =
    let a = c.args in
    let x = c.parse_film_grain_data-r.result in
    let n = c.number.result in
    let room = c.if-fgd-lt186.false in
    let put = c.put_film_grain.ensures in
    let read = rw (c.place_of-p.ensures, c.layout_of.ensures) at c.parse_film_grain_data-r.ensures.value in
    let outcome : Outcome x = rw read (grain_outcome a.s.now (place_of a.position.now a.error.now) (layout_of a.layout)) in
    record {
      fgd_after = pair (row x.answer x.next a.error.now c.number.ensures c.put_place.ensures) put.out_after
          ∙ sym (taken _ _ _ (le-leb 186 (length a.fgd.now) room) ∙ taken _ _ _ (le-leb a.layout 3 c.if-layout-gt3.false) ∙ through _ _ read);
      fgd_unchanged_at_4 = λ e. absurd (never x n c.number.ensures outcome 4 (λ h. omega arith) (λ h. omega arith) e);
      fgd_unchanged_at_5 = λ e. absurd (never x n c.number.ensures outcome 5 (λ h. omega arith) (λ h. omega arith) e);
      zeros_at_7 = λ e. zeros_left x n c.number.ensures outcome a.fgd.now _ room put.out_after e;
      lists_left = λ _. lists_left x _ (put.has_lists room) c.parse_film_grain_data-r.ensures.grain_lists;
    }
