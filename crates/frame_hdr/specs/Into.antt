-- parse_tile_info_frmhdr over the lent buffers of the frame's layout and of the sequence's: the answer, the frame's code and the place after it,
-- and beside them the frame's buffers.
use Rattle.std.specs.Prelude.{◌&&◌, List, ℕ, ℤ}
use Rattle.answers.specs.Numbers.{is_refusal}
use Rattle.answers.specs.declared.Answer.TheVariants.{ShortBuffer}
use Rattle.getbits.specs.Chain.{pick}
use Rattle.getbits.specs.declared.Place.{Place}
use Rattle.seq_fields.specs.declared.AdaptiveBoolean.{AdaptiveBoolean}
use Rattle.flat.specs.Layout.{Buffers, has_room, put_layout, layout_in}
use Rattle.frame_layout.specs.Frame.{with_layout, parse_tile_info_frmhdr}
use Rattle.frame_layout.specs.declared.FrameType.{FrameType}
use Rattle.frame_layout.specs.declared.FrameHeader.{FrameHeader}
use Rattle.frame_hdr.specs.declared.FrameOutcome.{FrameOutcome}
use Rattle.frame_layout.specs.declared.FrameRead.{FrameRead}
use Rattle.frame_layout.specs.declared.SeqLayout.{SeqLayout}

-- a frame: its type, its size, its code, and the layout in its buffers
abbrev pub frame_in : FrameType → ℤ → ℤ → ℕ → Buffers → FrameHeader
frame_in type width height code b = record { frame_type = type; width = width; height = height; sb128 = code; tiling = layout_in b }

-- a sequence: its code, its greatest size, its level and tier, the layout's presence, and the layout in its buffers
abbrev pub seq_in : ℕ → ℤ → ℤ → ℕ → ℕ → AdaptiveBoolean → Buffers → SeqLayout
seq_in code width height level tier present b =
    record { sb128 = code; max_width = width; max_height = height; level = level; tier = tier; present = present; t = layout_in b }

-- a frame's layout goes into its buffers; after a refusal they are what they were
abbrev pub frame_into : FrameRead → Buffers → FrameOutcome × Buffers
frame_into r b = (
  record { answer = r.answer; sb128 = r.hdr.sb128; next = r.next },
  pick (is_refusal r.answer) b (put_layout r.hdr.tiling b),
)

-- where one of the six buffers lacks room: 5, no bit used
unfoldable pub parse_tile_info_frmhdr_into : List ℕ → Place → Buffers → Buffers → FrameHeader → SeqLayout → FrameOutcome × Buffers
parse_tile_info_frmhdr_into s p b seq h q =
    pick (has_room b && has_room seq)
    (frame_into (parse_tile_info_frmhdr s p h q) b)
    (record { answer = ShortBuffer; sb128 = h.sb128; next = p }, b)

-- the reading that a call leaves: its answer, the frame given with its code and the layout in the buffers after it, and the place
abbrev pub frame_layout_left : FrameHeader → FrameOutcome → Buffers → FrameRead
frame_layout_left h r b = record { answer = r.answer; hdr = with_layout h r.sb128 (layout_in b); next = r.next }
