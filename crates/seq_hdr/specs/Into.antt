-- parse_seq_hdr over a lent buffer of the header's numbers and those of its layout.
use Rattle.std.specs.Prelude.{◌≡◌, Bool, false, List, ◌++◌, ℕ, ℤ}
use Rattle.answers.specs.Numbers.{is_refusal}
use Rattle.answers.specs.declared.Answer.TheVariants.{InvalidSequenceHeader, InvalidTileInfo, ShortBuffer}
use Rattle.getbits.specs.Bits.{get_flag}
use Rattle.getbits.specs.Chain.{pick, then}
use Rattle.getbits.specs.declared.Place.{Place}
use Rattle.tile_layout.specs.Limits.{no_tile_info}
use Rattle.tile_layout.specs.declared.TileInfo.{TileInfo}
use Rattle.flat.specs.Layout.{Buffers, over_front, has_room, put_layout}
use Rattle.flat_hdr.specs.Header.{flat_start, flat_level, flat_format, flat_picture, flat_blocks, flat_motion, flat_ref_frames, flat_inter, flat_residual, flat_filters, flat_seq_hdr}
use Rattle.flat_hdr.specs.Rows.{PutIn}
use Rattle.seq_picture.specs.declared.FrameSize.{FrameSize}
use Rattle.seq_picture.specs.declared.Level.{Level}
use Rattle.seq_record.specs.declared.SequenceHeader.{SequenceHeader}
use Rattle.seq_hdr.specs.declared.HeaderOutcome.{HeaderOutcome}
use Rattle.seq_hdr.specs.declared.RestRead.{RestRead}
use Rattle.seq_hdr.specs.declared.SeqRead.{SeqRead}
use Rattle.seq_hdr.specs.declared.TilingOutcome.{TilingOutcome}
use Rattle.seq_hdr.specs.Tiling.{TilingRead, read_tiling}
use Rattle.seq_hdr.specs.Header.{refused_header, check_trailing_bits, with_tiling, parse_seq_hdr}

-- the answer and the place after the header, and beside them the buffers; a refused header's are zeros, and where one of the layout's lacks room: 5, no bit
-- used, and all stay as they were
unfoldable pub parse_seq_hdr_into : List ℕ → Place → Bool → List ℤ → Buffers → HeaderOutcome × List ℤ × Buffers
parse_seq_hdr_into s p strict out b =
    pick (has_room b)
    (then (parse_seq_hdr s p strict) λ r.
    (record { answer = r.answer; next = r.next }, over_front 146 (flat_seq_hdr r.hdr) out, put_layout r.hdr.tiling.t b))
    (record { answer = ShortBuffer; next = p }, out, b)

-- Private functions alone cite what follows.

-- the numbers before the tiling's
abbrev pub flat_head : SequenceHeader → List ℤ
flat_head hdr = flat_start hdr.start
    ++ flat_level hdr.level
    ++ flat_format hdr.format
    ++ flat_picture hdr.picture
    ++ flat_blocks hdr.blocks
    ++ (flat_motion hdr.motion ++ flat_ref_frames hdr.refs)
    ++ flat_inter hdr.inter
    ++ flat_residual hdr.residual
    ++ flat_filters hdr.filters

-- they were put, unless the header is refused; what stands behind all numbers stays as it was
pub record HeadPut (before : List ℤ) (r : SeqRead) (after : List ℤ) : Type 0 where
  pub stands : is_refusal r.answer ≡ false → PutIn before 0 (flat_head r.hdr) 144 after
  pub behind : (xs : List ℤ) → over_front 146 xs after ≡ over_front 146 xs before

-- the tiling that is read, with its layout t
abbrev pub whole_tiling : TilingOutcome → TileInfo → TilingRead
whole_tiling r t = record { answer = r.answer; value = record { present = r.present; t = t }; next = r.next }

-- the tiling z was read, and its layout put over buffers b, unless it is refused; what stands behind a layout stays as it was
pub record TilingInto (z : TilingRead) (b : Buffers) (r : TilingOutcome) (after : Buffers) : Type 0 where
  pub is : whole_tiling r z.value.t ≡ z
  pub put : after ≡ pick (is_refusal r.answer) b (put_layout z.value.t b)
  pub behind : put_layout no_tile_info after ≡ put_layout no_tile_info b

-- the last questions about a header
abbrev pub ask_end : Bool → SequenceHeader → List ℕ → Place → SeqRead
ask_end strict hdr s p = pick p.error (refused_header InvalidSequenceHeader p) (check_trailing_bits strict hdr s p)

-- what they answer of it
abbrev pub ended_header : HeaderOutcome → SequenceHeader → SeqRead
ended_header r hdr = pick (is_refusal r.answer) (refused_header r.answer r.next) (record { answer = r.answer; hdr = hdr; next = r.next })

-- what stands behind the record before the tiling
abbrev pub read_rest : Bool → ℕ → FrameSize → Level → SequenceHeader → List ℕ → Place → SeqRead
read_rest strict sb128 size level hdr s p =
    then (read_tiling sb128 size level s p) λ tiling.
    pick (is_refusal tiling.answer) (refused_header InvalidTileInfo tiling.next) (
    then (get_flag s tiling.next) λ grain.
    pick grain.next.error (refused_header InvalidSequenceHeader grain.next) (
    then (with_tiling hdr tiling.value grain.value) λ hdr.
    check_trailing_bits strict hdr s grain.next))

-- the header that it ends, with its layout t
abbrev pub whole_rest : RestRead → TileInfo → SequenceHeader → SeqRead
whole_rest r t hdr =
    ended_header (record { answer = r.answer; next = r.next }) (with_tiling hdr (record { present = r.present; t = t }) r.film_grain_present)
