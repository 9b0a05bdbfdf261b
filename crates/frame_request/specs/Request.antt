-- What is read of a frame request: a sequence header with its length in front, a frame's type and size, and tiling bits.
use Rattle.std.specs.Prelude.{Bool, ◌&&◌, false, List, ℕ, ◌+◌, leb, pos, length, take, drop}
use Rattle.answers.specs.Numbers.{is_refusal}
use Rattle.answers.specs.declared.Answer.{Answer}
use Rattle.answers.specs.declared.Answer.TheVariants.{WrongArguments}
use Rattle.getbits.specs.Bits.{place_at}
use Rattle.getbits.specs.Chain.{pick, then}
use Rattle.program.specs.Input.{byte_at, two_at, is_input}
use Rattle.tile_layout.specs.Limits.{no_tile_info}
use Rattle.seq_hdr.specs.Header.{parse_seq_hdr}
use Rattle.seq_hdr.specs.declared.SeqRead.{SeqRead}
use Rattle.frame_request.specs.declared.SequenceArgs.{SequenceArgs}
use Rattle.frame_layout.specs.declared.FrameHeader.{FrameHeader}
use Rattle.frame_layout.specs.declared.FrameRead.{FrameRead}
use Rattle.frame_layout.specs.declared.FrameType.{FrameType}
use Rattle.frame_layout.specs.declared.FrameType.TheVariants.{Key}
use Rattle.frame_layout.specs.Frame.{is_frame_type, frame_type_of, parse_tile_info_frmhdr}
use Rattle.frame_layout.specs.Sequence.{seq_layout}

-- where the frame begins: behind the header's length L and L bytes of header
abbrev pub frame_at : List ℕ → ℕ
frame_at s = two_at s 0 + 2

-- a frame of a type and a size, with the zero layout
abbrev pub frame_of : FrameType → ℕ → ℕ → FrameHeader
frame_of t w h = record { frame_type = t; width = pos w; height = pos h; sb128 = 0; tiling = no_tile_info }

-- the frame's type, width - 1 and height - 1
abbrev pub given_frame : List ℕ → FrameHeader
given_frame s = frame_of (frame_type_of (byte_at s (frame_at s))) (two_at s (frame_at s + 1) + 1) (two_at s (frame_at s + 3) + 1)

-- 65,536 bytes at most, nothing missing before the tiling bits, and a type of 0 to 3
abbrev pub is_frame_request : List ℕ → Bool
is_frame_request s = (is_input s && leb (frame_at s + 5) (length s)) && is_frame_type (byte_at s (frame_at s))

-- a refusal before the frame: its record is a key frame of 1 by 1
abbrev pub no_frame : Answer → FrameRead
no_frame z = record { answer = z; hdr = frame_of Key 1 1; next = place_at 0 false }

-- the sequence header, read not strict
abbrev pub request_header : List ℕ → SeqRead
request_header s = parse_seq_hdr (take (two_at s 0) (drop 2 s)) (place_at 0 false) false

-- what the frame's layout is read for besides the frame: the sequence's code, level and tier; of another input zeros
unfoldable pub sequence_args : List ℕ → SequenceArgs
sequence_args s =
    pick (is_frame_request s)
    (then (request_header s) λ q. record { seq_sb128 = q.hdr.blocks.partition.sb128; level = q.hdr.level.level; tier = q.hdr.level.tier })
    (record { seq_sb128 = 0; level = 0; tier = 0 })

-- the header and the frame with its record; another input is 4
unfoldable pub frame_request : List ℕ → FrameRead
frame_request s =
    pick (is_frame_request s)
    (then (request_header s) λ q.
    pick (is_refusal q.answer) (no_frame q.answer)
    (parse_tile_info_frmhdr (drop (frame_at s + 5) s) (place_at 0 false) (given_frame s) (seq_layout q.hdr)))
    (no_frame WrongArguments)
