-- What the private functions answer. No public contract cites it.
use Rattle.std.specs.Prelude.{◌≡◌, ℕ, ◌+◌, ◌≤◌, List, Bool, ℤ, set}
use Rattle.getbits.specs.Bits.{bit_count, bits_at, place_at, position}
use Rattle.getbits.specs.Chain.{pick}
use Rattle.getbits.specs.declared.Place.{Place}
use Rattle.seg_info.specs.Seg.{marked, segment}
use Rattle.seg_info.specs.declared.Features.{Features}
use Rattle.seg_info.specs.declared.Masks.{Masks}
use Rattle.getbits.specs.declared.Read.{Read}
use Rattle.seg_info.specs.declared.SegmentationDataSet.{SegmentationDataSet}

-- a record whose deltas are lent, and the place beside it
abbrev pub lent_seg : List ℤ → Masks → SegmentationDataSet
lent_seg deltas m = record { delta_q = deltas; delta_q_mask = m.delta_q_mask; skip_mask = m.skip_mask; globalmv_mask = m.globalmv_mask }

abbrev pub lent_read : List ℤ → Read Masks → Read SegmentationDataSet
lent_read deltas r = record { value = lent_seg deltas r.value; next = r.next }

-- how many bits a segment has
abbrev pub segment_bits : Bool → ℕ
segment_bits changed = pick changed 13 3

-- a record with the features of segment n
abbrev pub with_features : Features → ℕ → SegmentationDataSet → SegmentationDataSet
with_features f n seg =
    record {
      delta_q = pick f.changed (set seg.delta_q n f.delta) seg.delta_q;
      delta_q_mask = marked f.changed n seg.delta_q_mask;
      skip_mask = marked f.skip n seg.skip_mask;
      globalmv_mask = marked f.globalmv n seg.globalmv_mask;
    }

-- f is the features of every segment whose first 13 bits write x
abbrev pub FeaturesOf : ℕ → Features → Type 0
FeaturesOf x f =
    (s : List ℕ) (p : Place) (n : ℕ) (seg : SegmentationDataSet) → x ≡ bits_at s (position s p) 13 → position s p + 13 ≤ bit_count s
    → segment s n (record { value = seg; next = p }) ≡ record { value = with_features f n seg; next = place_at (position s p + segment_bits f.changed) p.error }
