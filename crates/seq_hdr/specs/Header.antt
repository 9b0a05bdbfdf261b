-- The sequence header: document 01, parse_seq_hdr, and "Questions asked, in this order".
use Rattle.std.specs.Prelude.{ℕ, ◌%◌, List, Bool, false, not, ◌||◌, ltb, leb, eqb}
use Rattle.answers.specs.Numbers.{is_refusal}
use Rattle.answers.specs.declared.Answer.{Answer}
use Rattle.answers.specs.declared.Answer.TheVariants.{Accepted, InvalidSequenceHeader, InvalidTileInfo, InvalidTrailingBits}
use Rattle.getbits.specs.Bits.{get_flag}
use Rattle.getbits.specs.Chain.{pick, then}
use Rattle.getbits.specs.declared.Place.{Place}
use Rattle.codes.specs.Codes.{get_vlc}
use Rattle.seq_fields.specs.Fields.{get_small, is_mono}
use Rattle.seq_picture.specs.Level.{read_level, read_format}
use Rattle.seq_picture.specs.Picture.{read_picture}
use Rattle.seq_picture.specs.declared.Level.{Level}
use Rattle.seq_picture.specs.declared.Format.{Format}
use Rattle.seq_blocks.specs.Blocks.{read_blocks}
use Rattle.seq_inter.specs.Refs.{read_motion, read_ref_frames}
use Rattle.seq_inter.specs.Inter.{read_inter}
use Rattle.seq_residual.specs.Residual.{read_residual}
use Rattle.seq_residual.specs.Filters.{read_filters}
use Rattle.seq_record.specs.Zero.{no_seq_hdr}
use Rattle.seq_record.specs.declared.SequenceHeader.{SequenceHeader}
use Rattle.seq_record.specs.declared.SeqTiling.{SeqTiling}
use Rattle.seq_record.specs.declared.Start.{Start}
use Rattle.seq_fields.specs.declared.AdaptiveBoolean.TheVariants.{Off}
use Rattle.tile_layout.specs.Limits.{no_tile_info}
use Rattle.seq_hdr.specs.Tiling.{read_tiling}
use Rattle.getbits.specs.declared.Read.{Read}
use Rattle.seq_hdr.specs.declared.SeqRead.{SeqRead}

-- the id, cut to eight bits, and the profile
unfoldable pub read_start : List ℕ → Place → Read Start
read_start s p =
    then (get_vlc s p) λ id.
    then (get_small s id.next 5) λ profile.
    record { value = record { id = id.value % 256; profile = profile.value }; next = profile.next }

-- is the profile neither at most 8 nor 31?
abbrev pub unknown_profile : ℕ → Bool
unknown_profile n = not (leb n 8 || eqb n 31)

-- a refused sequence answers the zero record
unfoldable pub refused_header : Answer → Place → SeqRead
refused_header answer p = record { answer = answer; hdr = no_seq_hdr; next = p }

-- strict only: after the extension bit, is there a further bit, and is it 1? The extension's content is not skipped
unfoldable pub check_trailing_bits : Bool → SequenceHeader → List ℕ → Place → SeqRead
check_trailing_bits strict hdr s p =
    pick (not strict) (record { answer = Accepted; hdr = hdr; next = p }) (
    then (get_flag s p) λ extension.
    then (get_flag s extension.next) λ one.
    pick (one.next.error || not one.value) (refused_header InvalidTrailingBits one.next)
    (record { answer = Accepted; hdr = hdr; next = one.next }))

-- the groups behind the format and before the tiling; the record is still without it
unfoldable pub read_groups : Start → Level → Format → List ℕ → Place → SeqRead
read_groups start level format s p =
    then (is_mono format.layout) λ mono.
    then level.reduced_still_picture_header λ reduced.
    then (read_picture reduced s p) λ picture.
    then (read_blocks mono reduced s picture.next) λ blocks.
    then (read_motion reduced s blocks.next) λ motion.
    then (read_ref_frames reduced s motion.next) λ refs.
    pick (ltb 8 refs.value.ref_frames) (refused_header InvalidSequenceHeader refs.next) (
    then (read_inter reduced s refs.next) λ inter.
    then (read_residual mono reduced s inter.next) λ residual.
    then blocks.value.partition.sb128 λ sb128.
    then (read_filters reduced sb128 s residual.next) λ filters.
    record {
      answer = Accepted;
      hdr = record {
        start = start;
        level = level;
        format = format;
        picture = picture.value;
        blocks = blocks.value;
        motion = motion.value;
        refs = refs.value;
        inter = inter.value;
        residual = residual.value;
        filters = filters.value;
        tiling = record { present = Off; t = no_tile_info };
        film_grain_present = false;
      };
      next = filters.next;
    })

-- everything before the tiling
unfoldable pub read_head : List ℕ → Place → SeqRead
read_head s p =
    then (read_start s p) λ start.
    pick (unknown_profile start.value.profile) (refused_header InvalidSequenceHeader start.next) (
    then (read_level s start.next) λ level.
    pick (ltb 3 level.layout_idx) (refused_header InvalidSequenceHeader level.next) (
    then (read_format level.layout_idx s level.next) λ format.
    pick (ltb 2 format.depth_idx) (refused_header InvalidSequenceHeader format.next)
    (read_groups start.value level.value format.value s format.next)))

-- the record with its last two fields
abbrev pub with_tiling : SequenceHeader → SeqTiling → Bool → SequenceHeader
with_tiling hdr tiling grain =
    record {
      start = hdr.start;
      level = hdr.level;
      format = hdr.format;
      picture = hdr.picture;
      blocks = hdr.blocks;
      motion = hdr.motion;
      refs = hdr.refs;
      inter = hdr.inter;
      residual = hdr.residual;
      filters = hdr.filters;
      tiling = tiling;
      film_grain_present = grain;
    }

-- parse_seq_hdr
unfoldable pub parse_seq_hdr : List ℕ → Place → Bool → SeqRead
parse_seq_hdr s p strict =
    then (read_head s p) λ head.
    pick (is_refusal head.answer) head (
    then (read_tiling head.hdr.blocks.partition.sb128 head.hdr.picture.size head.hdr.level s head.next) λ tiling.
    pick (is_refusal tiling.answer) (refused_header InvalidTileInfo tiling.next) (
    then (get_flag s tiling.next) λ grain.
    pick grain.next.error (refused_header InvalidSequenceHeader grain.next) (
    then (with_tiling head.hdr tiling.value grain.value) λ hdr.
    check_trailing_bits strict hdr s grain.next)))
