-- A segment, from what its readings answer. Assumes nothing.
use Rattle.std.proofs.Common.{Bool, ℤ}
use mathlib.Core.List.{List}
use mathlib.Core.Path.{◌≡◌, ◌∙◌}
use Prim.Native.Nat.{ℕ}
use Rattle.getbits.specs.Bits.{get_flag}
use Rattle.getbits.specs.declared.Read.{Read}
use Rattle.getbits.specs.declared.Place.{Place}
use Rattle.getbits.proofs.Chain.{through}
use Rattle.seg_info.specs.Inner.{with_features}
use Rattle.seg_info.specs.Seg.{delta_if, segment}
use Rattle.seg_info.specs.declared.SegmentationDataSet.{SegmentationDataSet}

pub from_readings : (s : List ℕ) (n : ℕ) (seg : SegmentationDataSet) (p : Place) (changed : Read Bool) (delta : Read ℤ) (skip globalmv : Read Bool)
    → changed ≡ get_flag s p → delta ≡ delta_if changed.value s changed.next → skip ≡ get_flag s delta.next → globalmv ≡ get_flag s skip.next
    → segment s n (record { value = seg; next = p })
    ≡ record { value = with_features (record { changed = changed.value; delta = delta.value; skip = skip.value; globalmv = globalmv.value }) n seg; next = globalmv.next }
unfolding segment
from_readings s n seg p changed delta skip globalmv a b c d = through _ _ a ∙ through _ _ b ∙ through _ _ c ∙ through _ _ d
