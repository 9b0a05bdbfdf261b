use mathlib.Core.Path.{◌≡◌, sym, ap, ◌∙◌}
use borrow.Author.Rules.{rules}
use mir.Syntax.{w16}
use mir.Val.{to_z, of_z}
use Rattle.seg_info.specs.Inner.{lent_seg}
use Rattle.seg_info.specs.declared.SegmentationDataSet.{SegmentationDataSet}
use Rattle.seg_info.proofs.Readings.{from_readings}
use Rattle.seg_info.proofs.read_segment.Goals as goal

-- the delta, read back from its bits
back : (d : goal.After-result-1) → to_z w16 (of_z w16 d.delta_if-delta.result.value) ≡ d.delta_if-delta.result.value
back d = search rules

pub returns : goal.returns
returns c =
    let a = c.args in
    ap (λ (x : SegmentationDataSet). record { value = x; next = c.get_flag-globalmv.result.next }) c.put-masks.ensures
    ∙ rw (back c)
    (sym (from_readings a.s.now a.n (lent_seg a.delta_q.now a.r.value) a.r.next c.get_flag-changed.result c.delta_if-delta.result c.get_flag-skip.result c.get_flag-globalmv.result
    c.get_flag-changed.ensures c.delta_if-delta.ensures c.get_flag-skip.ensures c.get_flag-globalmv.ensures))
