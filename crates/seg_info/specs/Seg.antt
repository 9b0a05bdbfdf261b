-- The features of the segments: document 01, parse_seg_info.
use Rattle.std.specs.Prelude.{ℕ, ◌^◌, List, Bool, true, false, ℤ, pos, negsuc, set, replicate}
use Rattle.std.specs.Int.Bits.{bit_or}
use Rattle.std.specs.Int.Signed.{lt_z}
use Rattle.getbits.specs.Bits.{get_flag, get_sbits}
use Rattle.getbits.specs.Chain.{pick, then, turns}
use Rattle.getbits.specs.declared.Place.{Place}
use Rattle.getbits.specs.declared.Read.{Read}
use Rattle.seg_info.specs.declared.SegmentationDataSet.{SegmentationDataSet}

-- a number clamped to -351..351 (negsuc 350 is -351)
abbrev pub clamped : ℤ → ℤ
clamped v = pick (lt_z v (negsuc 350)) (negsuc 350) (pick (lt_z (pos 351) v) (pos 351) v)

-- signed 10 bits, clamped; without its flag no bit is read
unfoldable pub delta_if : Bool → List ℕ → Place → Read ℤ
delta_if true s p = then (get_sbits s p (pos 10)) λ d. record { value = clamped d.value; next = d.next }
delta_if false s p = record { value = pos 0; next = p }

-- a mask with bit n ORed on, if the flag is set
abbrev pub marked : Bool → ℕ → ℕ → ℕ
marked flag n mask = pick flag (bit_or mask (2 ^ n)) mask

-- segment n: flag, delta, skip flag, globalmv flag
unfoldable pub segment : List ℕ → ℕ → Read SegmentationDataSet → Read SegmentationDataSet
segment s n r =
    then (get_flag s r.next) λ changed.
    then (delta_if changed.value s changed.next) λ delta.
    then (get_flag s delta.next) λ skip.
    then (get_flag s skip.next) λ globalmv.
    record {
      value = record {
        delta_q = pick changed.value (set r.value.delta_q n delta.value) r.value.delta_q;
        delta_q_mask = marked changed.value n r.value.delta_q_mask;
        skip_mask = marked skip.value n r.value.skip_mask;
        globalmv_mask = marked globalmv.value n r.value.globalmv_mask;
      };
      next = globalmv.next;
    }

-- parse_seg_info: 8 segments, 16 with the extension, written over the record given
unfoldable pub parse_seg_info : List ℕ → Place → SegmentationDataSet → Bool → Read SegmentationDataSet
parse_seg_info s p seg ext = turns (pick ext 16 8) (segment s) (record { value = seg; next = p })

-- the zero record
abbrev pub no_seg_info : SegmentationDataSet
no_seg_info = record { delta_q = replicate 16 (pos 0); delta_q_mask = 0; skip_mask = 0; globalmv_mask = 0 }
