-- The reader holds the lent bytes together with its place in them: document 01, getbits.rs.
use Rattle.std.specs.Prelude.{ℕ, List, false}
use Rattle.std.specs.Borrow.{Bor}
use Rattle.getbits.specs.declared.Place.{Place}
use Rattle.getbits.specs.declared.Read.{Read}
use Rattle.seq_record.specs.declared.SequenceHeader.{SequenceHeader}
use Rattle.seq_hdr.specs.declared.SeqRead.{SeqRead}
use Rattle.frame_layout.specs.declared.FrameHeader.{FrameHeader}
use Rattle.frame_layout.specs.declared.FrameRead.{FrameRead}
use Rattle.reader.specs.declared.GetBits.{GetBits}
use Rattle.reader.specs.declared.Answered.{Answered}

-- the place before the first bit, without error
abbrev pub start : Place
start = record { byte = 0; used = 0; error = false }

-- the reader of the bytes s at a place
abbrev pub reader_at : Bor (List ℕ) → Place → GetBits
reader_at s p = record { «data» = s; at = p }

-- the number that the reader g hands out by a reading of its bytes, and the reader after it: the same bytes, at the next place
abbrev pub held : GetBits → Read ℕ → ℕ × GetBits
held g r = (r.value, reader_at g.«data» r.next)

-- the same by the reading of a sequence header: its answer and the header
abbrev pub held_seq : GetBits → SeqRead → Answered SequenceHeader × GetBits
held_seq g r = (record { answer = r.answer; hdr = r.hdr }, reader_at g.«data» r.next)

-- what was read, with the place of the reader g after it
abbrev pub seq_read_of : Answered SequenceHeader → GetBits → SeqRead
seq_read_of r g = record { answer = r.answer; hdr = r.hdr; next = g.at }

-- the two of a frame's header
abbrev pub held_frame : GetBits → FrameRead → Answered FrameHeader × GetBits
held_frame g r = (record { answer = r.answer; hdr = r.hdr }, reader_at g.«data» r.next)

abbrev pub frame_read_of : Answered FrameHeader → GetBits → FrameRead
frame_read_of r g = record { answer = r.answer; hdr = r.hdr; next = g.at }
