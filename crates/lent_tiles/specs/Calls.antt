-- A call over the lent buffers of a layout: a row of the answer's number, the position and the error's byte, and beside it the buffers.
use Rattle.std.specs.Prelude.{ℕ, Bool, ◌&&◌, List, ℤ}
use Rattle.answers.specs.Numbers.{is_refusal}
use Rattle.answers.specs.declared.Answer.TheVariants.{WrongArguments}
use Rattle.getbits.specs.Bits.{settled}
use Rattle.getbits.specs.Chain.{pick, then}
use Rattle.getbits.specs.declared.Place.{Place}
use Rattle.lent.specs.Calls.{answered, too_short}
use Rattle.lent.specs.Lent.{place_of}
use Rattle.tile_layout.specs.Layout.{parse_tile_info}
use Rattle.tile_layout.specs.declared.TileArgs.{TileArgs}
use Rattle.tile_layout.specs.declared.TileInfo.{TileInfo}
use Rattle.tile_layout.specs.declared.TileRead.{TileRead}
use Rattle.frame_layout.specs.Frame.{is_frame_type, frame_type_of, is_presence, present_of, parse_tile_info_frmhdr}
use Rattle.frame_hdr.specs.Into.{frame_in, seq_in}
use Rattle.frame_layout.specs.declared.FrameHeader.{FrameHeader}
use Rattle.frame_layout.specs.declared.FrameRead.{FrameRead}
use Rattle.frame_layout.specs.declared.SeqLayout.{SeqLayout}
use Rattle.flat.specs.Layout.{Buffers, has_room, put_layout, layout_in}

-- a layout's answer, handed back over its buffers: after a refusal they are what they were
abbrev pub handed_tiles : TileRead → ℕ → Buffers → List ℕ × Buffers
handed_tiles r error b = (answered r.answer r.next error, pick (is_refusal r.answer) b (put_layout r.info b))

-- a frame's likewise, with its code
abbrev pub handed_frame : FrameRead → ℕ → ℕ → Buffers → List ℕ × ℕ × Buffers
handed_frame r error code b = (
  answered r.answer r.next error,
  pick (is_refusal r.answer) code r.hdr.sb128,
  pick (is_refusal r.answer) b (put_layout r.hdr.tiling b),
)

-- a reading of a layout from a place and over a layout, called over lent buffers
unfoldable pub lent_tiles : (Place → TileInfo → TileRead) → ℕ → ℕ → Buffers → List ℕ × Buffers
lent_tiles read position error b =
    pick (has_room b)
    (then (read (place_of position error) (layout_in b)) λ r. handed_tiles r error b)
    (too_short position error, b)

-- is each of the two numbers one of them?
abbrev pub is_known : ℕ → ℕ → Bool
is_known type present = is_frame_type type && is_presence present

-- the frame that a call is given: its type's number, its size, its code and its layout
abbrev pub frame_given : ℕ → ℤ → ℤ → ℕ → Buffers → FrameHeader
frame_given type width height code b = frame_in (frame_type_of type) width height code b

-- what it is given of the sequence: its code, its greatest size, its level and tier, the number of the layout's presence, and the layout
abbrev pub seq_given : ℕ → ℤ → ℤ → ℕ → ℕ → ℕ → Buffers → SeqLayout
seq_given code width height level tier present b = seq_in code width height level tier (present_of present) b

-- a reading of a frame's layout from a place of the bytes s, called over the buffers of the frame's layout and of the sequence's; `known` says
-- whether the frame's type and the presence are numbers of one
unfoldable pub lent_frames : (Place → FrameRead) → List ℕ → ℕ → ℕ → ℕ → Buffers → Buffers → Bool → List ℕ × ℕ × Buffers
lent_frames read s position error code b seq known =
    pick (has_room b && has_room seq)
    (pick known
    (then (read (place_of position error)) λ r. handed_frame r error code b)
    (answered WrongArguments (settled s (place_of position error)) error, code, b))
    (too_short position error, code, b)

-- parse_tile_info over the buffers of a layout
abbrev pub lent_tile_info : List ℕ → ℕ → ℕ → Buffers → TileArgs → List ℕ × Buffers
lent_tile_info s position error b a = lent_tiles (λ p old. parse_tile_info s p old a) position error b

-- parse_tile_info_frmhdr over the buffers of the frame's layout and of the sequence's
abbrev pub lent_frame : List ℕ → ℕ → ℕ → Buffers → Buffers → Bool → FrameHeader → SeqLayout → List ℕ × ℕ × Buffers
lent_frame s position error b seq known h q = lent_frames (λ p. parse_tile_info_frmhdr s p h q) s position error h.sb128 b seq known
