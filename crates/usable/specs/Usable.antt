-- Every accepted sequence header is usable for a frame: document 01, "Domain". So a frame over one gets 4 for its own width or height alone.
use Rattle.std.specs.Prelude.{◌≡◌, Bool, true, false, ◌&&◌, List, ℕ}
use Rattle.answers.specs.Numbers.{is_refusal}
use Rattle.getbits.specs.declared.Place.{Place}
use Rattle.tile_layout.specs.Limits.{unsigned, is_size}
use Rattle.seq_hdr.specs.Header.{parse_seq_hdr}
use Rattle.frame_layout.specs.Frame.{usable, in_frame_domain}
use Rattle.frame_layout.specs.Sequence.{seq_layout}
use Rattle.frame_layout.specs.declared.FrameHeader.{FrameHeader}

-- the header that the bytes s have at the place p is accepted
abbrev pub IsAccepted : List ℕ → Place → Bool → Type 0
IsAccepted s p strict = is_refusal (parse_seq_hdr s p strict).answer ≡ false

pub record AcceptedUsable : Type 0 where
  -- its record is usable
  pub header : (s : List ℕ) (p : Place) (strict : Bool) → IsAccepted s p strict → usable (seq_layout (parse_seq_hdr s p strict).hdr) ≡ true
  -- and a frame is in the domain exactly if its width and its height are
  pub frame : (s : List ℕ) (p : Place) (strict : Bool) → IsAccepted s p strict
      → (h : FrameHeader) → in_frame_domain h (seq_layout (parse_seq_hdr s p strict).hdr) ≡ (is_size (unsigned h.width) && is_size (unsigned h.height))
