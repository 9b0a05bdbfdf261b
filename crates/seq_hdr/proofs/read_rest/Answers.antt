use mathlib.Core.Path.{◌≡◌, refl, sym, ap, ◌∙◌}
use Rattle.answers.specs.declared.Answer.TheVariants.{InvalidSequenceHeader}
use Rattle.getbits.specs.Chain.{pick}
use Rattle.getbits.proofs.Chain.{through, taken, left}
use Rattle.seq_record.specs.declared.SequenceHeader.{SequenceHeader}
use Rattle.seq_hdr.specs.declared.SeqRead.{SeqRead}
use Rattle.seq_hdr.specs.Tiling.{read_tiling}
use Rattle.seq_hdr.specs.Header.{refused_header, with_tiling}
use Rattle.seq_hdr.specs.Into.{ended_header, read_rest}
use Rattle.seq_hdr.proofs.read_rest.Goals as goal
use Rattle.seq_hdr.proofs.read_rest.Goals.{After-check_end-end}

-- up to the last questions, which a refusal there and an accepted header share
to_end : (e : After-check_end-end) (hdr : SequenceHeader) → let a = e.args in
    read_rest a.strict a.sb128 a.size a.level hdr a.s.now a.p
    ≡ ended_header e.check_end-end.result (with_tiling hdr (record { present = e.read_tiling-tiling.result.present; t = (read_tiling a.sb128 a.size a.level a.s.now a.p).value.t }) e.get_flag-grain.result.value)
to_end e hdr =
    let p = e.get_flag-grain.result.next in
    through _ _ e.read_tiling-tiling.ensures.is
    ∙ left _ _ _ (sym e.is_refusal.ensures ∙ e.if-is_refusal.false)
    ∙ through _ _ e.get_flag-grain.ensures
    ∙ ap (λ (z : SeqRead). pick p.error (refused_header InvalidSequenceHeader p) z) (through _ _ refl)
    ∙ e.check_end-end.ensures _

pub returns-then-is_refusal : goal.returns-then-is_refusal
returns-then-is_refusal c =
    let t = c.read_tiling-tiling.ensures in
    let refusal = sym c.is_refusal.ensures ∙ c.if-is_refusal.true in
    (λ hdr. through _ _ t.is ∙ taken _ _ _ refusal, t.put ∙ taken _ _ _ refusal)

pub clear_layout-requires : goal.clear_layout-requires
clear_layout-requires c = let t = c.read_tiling-tiling.auto in rw (t.info, t.cols, t.rows) c.requires.room

pub returns-then-is_refusal-2 : goal.returns-then-is_refusal-2
returns-then-is_refusal-2 c =
    let refusal = sym c.is_refusal-2.ensures ∙ c.if-is_refusal-2.true in
    (to_end (goal.at.returns-then-is_refusal-2 c).After-check_end-end, c.clear_layout.ensures ∙ c.read_tiling-tiling.ensures.behind ∙ c.requires.zero_layout ∙ sym (taken _ _ _ refusal))

pub returns-else-is_refusal-2 : goal.returns-else-is_refusal-2
returns-else-is_refusal-2 c =
    (to_end (goal.at.returns-else-is_refusal-2 c).After-check_end-end, c.read_tiling-tiling.ensures.put ∙ left _ _ _ (sym c.is_refusal.ensures ∙ c.if-is_refusal.false) ∙ sym (left _ _ _ (sym c.is_refusal-2.ensures ∙ c.if-is_refusal-2.false)))
