use mathlib.Core.List.{List}
use mathlib.Core.Path.{◌≡◌, sym, ap, ◌∙◌}
use Prim.Native.Nat.{ℕ, ◌+◌, ◌*◌, ◌/◌, ◌%◌, ◌^◌, ◌≤◌}
use native.Mathlib.Omega.{arith}
use Rattle.getbits.specs.Bits.{bits_at, bit_count, position, place_at, read_bits}
use Rattle.getbits.specs.declared.Place.{Place}
use Rattle.getbits.proofs.Fields.{bits_top}
use Rattle.getbits.proofs.Parts.{look_bits, skip_there, shifted_bits}
use Rattle.getbits.proofs.Places.{pos_at}
use Rattle.seg_info.specs.Inner.{FeaturesOf, lent_seg, segment_bits, with_features}
use Rattle.seg_info.specs.Seg.{segment}
use Rattle.seg_info.specs.declared.Features.{Features}
use Rattle.seg_info.specs.declared.SegmentationDataSet.{SegmentationDataSet}
use Rattle.seg_info.proofs.two_segments.Goals as goal

-- the first segment has the word's first u bits, and the second the next v
two : (s : List ℕ) (p q : Place) (n w u v : ℕ) (a b : Features) (seg seg1 seg2 : SegmentationDataSet)
    → position s p + 32 ≤ bit_count s → w ≡ bits_at s (position s p) 32 → FeaturesOf (w / 2 ^ 19) a → FeaturesOf (w * 2 ^ u % 2 ^ 32 / 2 ^ 19) b
    → (u ≡ segment_bits a.changed) × (u ≤ 13) → (v ≡ segment_bits b.changed) × (v ≤ 13)
    → seg1 ≡ with_features a n seg → seg2 ≡ with_features b (n + 1) seg1 → q ≡ (read_bits s p (u + v)).next
    → record { value = seg2; next = q } ≡ segment s (n + 1) (segment s n (record { value = seg; next = p }))
two s p q n w u v a b seg seg1 seg2 room e fa fb eu ev e1 e2 eq =
    let p1 = place_at (position s p + u) p.error in
    let at : position s p1 ≡ position s p + u = pos_at s (position s p + u) p.error (omega (arith, eu.1)) in
    let first = fa s p n seg (ap (λ (x : ℕ). x / 2 ^ 19) e ∙ bits_top s (position s p) 13 19) (omega arith) in
    let second = fb s p1 (n + 1) seg1 (shifted_bits s (position s p) u 13 32 (omega (arith, eu.1)) e ∙ ap (λ (i : ℕ). bits_at s i 13) (sym at)) (omega (arith, at, eu.1)) in
    let sum : position s p1 + segment_bits b.changed ≡ position s p + (u + v) = omega (arith, at, ev.0) in
    let end : q ≡ place_at (position s p1 + segment_bits b.changed) p.error =
    skip_there s p (u + v) (omega (arith, eu.1, ev.1)) eq ∙ ap (λ (i : ℕ). place_at i p.error) (sym sum) in
    sym (ap (segment s (n + 1)) (first ∙ rw (sym e1, sym eu.0))
    ∙ second
    ∙ rw (sym e2, sym end))

pub returns : goal.returns
returns c =
    let a = c.args in
    two a.s.now a.r.next c.skip-next.result a.n c.look_ahead-word.result c.segment_bits-used.result c.segment_bits.result
    c.features_of-a.result c.features_of-b.result
    (lent_seg a.delta_q.now a.r.value) _ _
    c.requires.2 (look_bits a.s.now a.r.next 32 (omega arith) c.look_ahead-word.ensures) c.features_of-a.ensures c.features_of-b.ensures
    c.segment_bits-used.ensures c.segment_bits.ensures c.put-first.ensures c.put-masks.ensures c.skip-next.ensures
