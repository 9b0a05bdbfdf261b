-- What the program draw prints.
use Rattle.std.specs.Prelude.{Bool, List, [], ◌∷◌, ◌++◌, ℕ, ltb, eqb, length, drop}
use Rattle.answers.specs.Numbers.{number_of, is_refusal}
use Rattle.drawing.specs.Drawing.{drawing_text}
use Rattle.drawing.specs.Refusal.{refusal_text}
use Rattle.drawing.specs.Template.{marked}
use Rattle.frame_layout.specs.declared.FrameHeader.{FrameHeader}
use Rattle.frame_request.specs.Request.{sequence_args, frame_request}
use Rattle.frame_request.specs.declared.SequenceArgs.{SequenceArgs}
use Rattle.getbits.specs.Chain.{pick, then}
use Rattle.getbits.specs.declared.Place.{Place}
use Rattle.program.specs.Input.{byte_at}
use Rattle.program.specs.Output.{place_numbers}
use Rattle.text.specs.Text.{word}
use Rattle.tile_layout.specs.Limits.{unsigned}
use Rattle.tile_request.specs.Request.{samples_at, tile_request}

-- arguments: the frame's size, the codes of the frame and of the sequence, the level and the tier
abbrev pub arguments_of : List ℕ → List ℕ
arguments_of xs = marked (word "# x #, codes # #, level #, tier #") xs

-- those of what tile reads
unfoldable pub arguments_text : List ℕ → List ℕ
arguments_text s =
    pick (ltb (length s) 8) (word "fewer than 8 bytes")
    (arguments_of (samples_at s 0 ∷ samples_at s 2 ∷ byte_at s 4 ∷ byte_at s 5 ∷ byte_at s 6 ∷ byte_at s 7 ∷ []))

-- those of a frame that was read
abbrev pub frame_text : FrameHeader → SequenceArgs → List ℕ
frame_text hdr q = arguments_of (unsigned hdr.width ∷ unsigned hdr.height ∷ hdr.sb128 ∷ q.seq_sb128 ∷ q.level ∷ q.tier ∷ [])

-- what was read: U or N, bits used, reader error 0 or 1
unfoldable pub read_text : Bool → Place → List ℕ
read_text uniform next = marked (pick uniform (word ", U, # bits, error #") (word ", N, # bits, error #")) (place_numbers next)

-- a drawing of what tile reads: its refusal, or the layout
unfoldable pub tile_draw_text : List ℕ → List ℕ
tile_draw_text s =
    then (tile_request s) λ r.
    pick (is_refusal r.answer) (refusal_text (arguments_text s) (number_of r.answer))
    (drawing_text (arguments_text s ++ read_text r.info.uniform r.next) r.info (byte_at s 4) (samples_at s 0) (samples_at s 2))

-- of what frame reads
unfoldable pub frame_draw_text : List ℕ → List ℕ
frame_draw_text s =
    then (frame_request s) λ r.
    pick (is_refusal r.answer) (refusal_text (word "frame") (number_of r.answer))
    (drawing_text (frame_text r.hdr (sequence_args s) ++ read_text r.hdr.tiling.uniform r.next) r.hdr.tiling r.hdr.sb128 (unsigned r.hdr.width) (unsigned r.hdr.height))

-- a first byte says whose input is meant: 0 tile's, 1 frame's; another is 4
unfoldable pub chosen_draw_text : ℕ → List ℕ → List ℕ
chosen_draw_text first s =
    pick (eqb first 0) (tile_draw_text s) (pick (eqb first 1) (frame_draw_text s) (refusal_text (word "no first byte of 0 or 1") 4))

-- what is printed of an input; the rest is that input, and no first byte is 4
unfoldable pub draw_text : List ℕ → List ℕ
draw_text s =
    pick (eqb (length s) 0) (refusal_text (word "no first byte of 0 or 1") 4) (chosen_draw_text (byte_at s 0) (drop 1 s))
