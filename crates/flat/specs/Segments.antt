-- The features of the segments as flat numbers.
use Rattle.std.specs.Prelude.{ℕ, List, [], ◌∷◌, leb, ℤ, length, get_or, take}
use Rattle.getbits.specs.Chain.{pick}
use Rattle.seg_info.specs.Seg.{no_seg_info}
use Rattle.seg_info.specs.declared.SegmentationDataSet.{SegmentationDataSet}

-- the three masks
abbrev pub flat_masks : SegmentationDataSet → List ℕ
flat_masks d = d.delta_q_mask ∷ d.skip_mask ∷ d.globalmv_mask ∷ []

-- the features of 16 deltas and three masks; fewer are the zero record
unfoldable pub seg_info_of : List ℤ → List ℕ → SegmentationDataSet
seg_info_of deltas masks =
    pick (leb 16 (length deltas))
    (pick (leb 3 (length masks))
    (record { delta_q = take 16 deltas; delta_q_mask = get_or masks 0 0; skip_mask = get_or masks 1 0; globalmv_mask = get_or masks 2 0 })
    no_seg_info)
    no_seg_info
