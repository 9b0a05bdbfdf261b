-- What a frame's layout needs of the sequence header.
use Rattle.seq_record.specs.declared.SequenceHeader.{SequenceHeader}
use Rattle.frame_layout.specs.declared.SeqLayout.{SeqLayout}

abbrev pub seq_layout : SequenceHeader → SeqLayout
seq_layout hdr =
    record {
      sb128 = hdr.blocks.partition.sb128;
      max_width = hdr.picture.size.max_width;
      max_height = hdr.picture.size.max_height;
      level = hdr.level.level;
      tier = hdr.level.tier;
      present = hdr.tiling.present;
      t = hdr.tiling.t;
    }
