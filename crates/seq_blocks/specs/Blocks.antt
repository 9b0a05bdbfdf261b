-- Partition, segmentation and intra tools.
use Rattle.std.specs.Prelude.{ℕ, List, Bool, true, false, not, ◌&&◌, eqb}
use Rattle.getbits.specs.Bits.{get_flag, flag_if}
use Rattle.getbits.specs.Chain.{pick, then}
use Rattle.getbits.specs.declared.Place.{Place}
use Rattle.seq_fields.specs.Fields.{small_if, bit_of}
use Rattle.seg_info.specs.Seg.{parse_seg_info, no_seg_info}
use Rattle.getbits.specs.declared.Read.{Read}
use Rattle.seq_blocks.specs.declared.Blocks.{Blocks}
use Rattle.seq_blocks.specs.declared.SeqSegmentation.{SeqSegmentation}
use Rattle.seq_blocks.specs.declared.Intra.{Intra}
use Rattle.seg_info.specs.declared.SegmentationDataSet.{SegmentationDataSet}
use Rattle.seq_blocks.specs.declared.Partition.{Partition}

-- superblock code 0, 1, 2 means 64, 128, 256 samples
abbrev pub sb_code : Bool → Bool → ℕ
sb_code sb256 sb128 = pick sb256 2 (bit_of sb128)

-- the largest aspect ratio's logarithm: 3, or 1 or 2 if it is limited
abbrev pub aspect_ratio_log2 : Bool → Bool → ℕ
aspect_ratio_log2 limited two = pick limited (pick two 2 1) 3

-- superblock size and partitions
unfoldable pub read_partition : Bool → Bool → List ℕ → Place → Read Partition
read_partition mono reduced s p =
    then (get_flag s p) λ sb256.
    then (flag_if (not sb256.value) s sb256.next) λ sb128.
    then (flag_if (not mono) s sb128.next) λ sdp.
    then (flag_if (sdp.value && not reduced) s sdp.next) λ extSdp.
    then (get_flag s extSdp.next) λ extPartitions.
    then (flag_if extPartitions.value s extPartitions.next) λ uneven.
    then (get_flag s uneven.next) λ limited.
    then (flag_if limited.value s limited.next) λ two.
    record {
      value = record {
        sb128 = sb_code sb256.value sb128.value;
        sdp = sdp.value;
        ext_sdp = extSdp.value;
        ext_partitions = extPartitions.value;
        uneven_4way_partitions = uneven.value;
        max_pb_aspect_ratio_log2 = aspect_ratio_log2 limited.value two.value;
      };
      next = two.next;
    }

-- the segments' features under a condition: else the zero record, and the place as it was
unfoldable pub seg_info_if : Bool → List ℕ → Place → Bool → Read SegmentationDataSet
seg_info_if true s p ext = parse_seg_info s p no_seg_info ext
seg_info_if false s p ext = record { value = no_seg_info; next = p }

-- segmentation
unfoldable pub read_segmentation : List ℕ → Place → Read SeqSegmentation
read_segmentation s p =
    then (get_flag s p) λ ext.
    then (get_flag s ext.next) λ present.
    then (flag_if present.value s present.next) λ adaptive.
    then (seg_info_if present.value s adaptive.next ext.value) λ d.
    record {
      value = record { ext = ext.value; info_present = present.value; adaptive = adaptive.value; d = d.value };
      next = d.next;
    }

-- filter index 3 counts as 0
abbrev pub filter_index : ℕ → ℕ
filter_index n = pick (eqb n 3) 0 n

-- intra tools
unfoldable pub read_intra : Bool → List ℕ → Place → Read Intra
read_intra mono s p =
    then (get_flag s p) λ dip.
    then (get_flag s dip.next) λ edge.
    then (get_flag s edge.next) λ mrls.
    then (get_flag s mrls.next) λ cfl.
    then (small_if (not mono) s cfl.next 2) λ index.
    then (get_flag s index.next) λ mhccp.
    then (get_flag s mhccp.next) λ ibp.
    record {
      value = record {
        intra_dip = dip.value;
        intra_edge_filter = edge.value;
        mrls = mrls.value;
        cfl = cfl.value;
        cfl_ds_filter_index = filter_index index.value;
        mhccp = mhccp.value;
        ibp = ibp.value;
      };
      next = ibp.next;
    }

-- from the superblock size to the intra tools
unfoldable pub read_blocks : Bool → Bool → List ℕ → Place → Read Blocks
read_blocks mono reduced s p =
    then (read_partition mono reduced s p) λ partition.
    then (read_segmentation s partition.next) λ segmentation.
    then (read_intra mono s segmentation.next) λ intra.
    record {
      value = record { partition = partition.value; segmentation = segmentation.value; intra = intra.value };
      next = intra.next;
    }
