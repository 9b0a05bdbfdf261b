-- Whatever the bytes s, the place p and the record given, the tiles of a layout read fresh cover its picture: request #105.
use Rattle.std.specs.Prelude.{Bool, false, List, ◌≡◌, ℕ}
use Rattle.answers.specs.Numbers.{is_refusal}
use Rattle.getbits.specs.declared.Place.{Place}
use Rattle.tile_layout.specs.Layout.{parse_tile_info}
use Rattle.tile_layout.specs.Limits.{unsigned}
use Rattle.tile_layout.specs.declared.TileArgs.{TileArgs}
use Rattle.tile_layout.specs.declared.TileInfo.{TileInfo}
use Rattle.tile_layout.specs.declared.TileRead.{TileRead}
use Rattle.seq_hdr.specs.Header.{parse_seq_hdr}
use Rattle.seq_hdr.specs.declared.SeqRead.{SeqRead}
use Rattle.frame_layout.specs.Frame.{is_off, frame_args, read_reuse, parse_tile_info_frmhdr}
use Rattle.frame_layout.specs.Sequence.{seq_layout}
use Rattle.frame_layout.specs.declared.FrameHeader.{FrameHeader}
use Rattle.frame_layout.specs.declared.FrameRead.{FrameRead}
use Rattle.frame_layout.specs.declared.SeqLayout.{SeqLayout}
use Rattle.tile_limit.specs.Within.{parse_tile_info_within, parse_tile_info_frmhdr_within}
use Rattle.tile_limit.specs.declared.TileLimit.{TileLimit}
use Rattle.rectangles.specs.Covering.{Covering}

-- a layout, accepted for the arguments a
abbrev pub LayoutCovers : TileArgs → TileRead → Type 0
LayoutCovers a z = is_refusal z.answer ≡ false → Covering z.info a.frame_code a.width a.height

-- an accepted frame's layout, for the frame's own code, width and height
abbrev pub FrameCovers : FrameRead → Type 0
FrameCovers z = is_refusal z.answer ≡ false → Covering z.hdr.tiling z.hdr.sb128 (unsigned z.hdr.width) (unsigned z.hdr.height)

-- a sequence's layout, if it has one, for its code and its largest frame
abbrev pub SequenceCovers : SeqLayout → Type 0
SequenceCovers q = is_off q.present ≡ false → Covering q.t q.sb128 (unsigned q.max_width) (unsigned q.max_height)

-- that of an accepted sequence header
abbrev pub HeaderCovers : SeqRead → Type 0
HeaderCovers z = is_refusal z.answer ≡ false → SequenceCovers (seq_layout z.hdr)

-- the claim, of each operation that reads a layout
pub record FreshCovers : Type 0 where
  -- parse_tile_info
  pub layout : (s : List ℕ) (p : Place) (old : TileInfo) (a : TileArgs) → LayoutCovers a (parse_tile_info s p old a)
  -- parse_tile_info_frmhdr, where the sequence's layout is not reused
  pub frame : (s : List ℕ) (p : Place) (h : FrameHeader) (q : SeqLayout) → (read_reuse s p (frame_args h q) q).value ≡ false → FrameCovers (parse_tile_info_frmhdr s p h q)
  -- both within a limit
  pub layout_within : (s : List ℕ) (p : Place) (old : TileInfo) (a : TileArgs) (m : TileLimit) → LayoutCovers a (parse_tile_info_within s p old a m)
  pub frame_within : (s : List ℕ) (p : Place) (h : FrameHeader) (q : SeqLayout) (m : TileLimit) → (read_reuse s p (frame_args h q) q).value ≡ false
      → FrameCovers (parse_tile_info_frmhdr_within s p h q m)
  -- parse_seq_hdr
  pub header : (s : List ℕ) (p : Place) (strict : Bool) → HeaderCovers (parse_seq_hdr s p strict)
