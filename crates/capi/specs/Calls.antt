-- What the exported calls leave.
use Rattle.std.specs.Prelude.{ℕ, ◌&&◌, List, leb, ℤ, length}
use Rattle.answers.specs.Numbers.{number_of}
use Rattle.answers.specs.declared.Answer.TheVariants.{Accepted, ShortBuffer}
use Rattle.getbits.specs.Chain.{pick, then}
use Rattle.lent.specs.Lent.{is_set, place_of}
use Rattle.seg_info.specs.Seg.{parse_seg_info}
use Rattle.seq_hdr.specs.Header.{parse_seq_hdr}
use Rattle.flat_hdr.specs.Header.{flat_seq_hdr}
use Rattle.flat.specs.Layout.{Buffers, over_front, has_room, layout_in, put_layout}
use Rattle.lent.specs.Calls.{answered, too_short}
use Rattle.flat.specs.Segments.{flat_masks, seg_info_of}
use Rattle.tile_layout.specs.declared.TileArgs.{TileArgs}
use Rattle.layout_writing.specs.Write.{write_tile_info}

-- parse_seg_info over 16 lent deltas and three lent masks
unfoldable pub lent_seg_info : List ℕ → ℕ → ℕ → List ℤ → List ℕ → ℕ → List ℕ × List ℤ × List ℕ
lent_seg_info s position error deltas masks ext =
    pick (leb 16 (length deltas) && leb 3 (length masks))
    (then (parse_seg_info s (place_of position error) (seg_info_of deltas masks) (is_set ext)) λ r.
    (answered Accepted r.next error, over_front 16 r.value.delta_q deltas, over_front 3 (flat_masks r.value) masks))
    (too_short position error, deltas, masks)

-- parse_seq_hdr into 146 lent numbers and the buffers of a layout; a refused header writes the zero record
unfoldable pub lent_header : List ℕ → ℕ → ℕ → ℕ → List ℤ → Buffers → List ℕ × List ℤ × Buffers
lent_header s position error strict hdr b =
    pick (leb 146 (length hdr) && has_room b)
    (then (parse_seq_hdr s (place_of position error) (is_set strict)) λ r.
    (answered r.answer r.next error, over_front 146 (flat_seq_hdr r.hdr) hdr, put_layout r.hdr.tiling.t b))
    (too_short position error, hdr, b)

-- write_tile_info over the buffers of a layout: the answer's number, how many bits, and the buffer that they are written into
unfoldable pub lent_write : Buffers → TileArgs → List ℕ → ℕ × ℕ × List ℕ
lent_write b a out =
    pick (has_room b)
    (then (write_tile_info a (layout_in b) out) λ r. (number_of r.0.answer, r.0.bits, r.1))
    (number_of ShortBuffer, 0, out)
