use mathlib.Core.Path.{ap, ◌∙◌}
use Prim.Native.Nat.{ℕ}
use Rattle.getbits.specs.Chain.{turns}
use Rattle.seg_info.specs.Seg.{segment, parse_seg_info}
use Rattle.seg_info.proofs.parse_seg_info.Goals as goal

pub returns : goal.returns
unfolding parse_seg_info
returns c =
    let a = c.args in
    c.read_segments-r.ensures ∙ ap (λ (m : ℕ). turns m (segment a.s.now) (record { value = a.seg; next = a.p })) c.segments.ensures.0
