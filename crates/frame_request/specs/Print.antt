-- What is printed of a frame read (docs/PROGRAMS.md).
use Rattle.std.specs.Prelude.{List, ℕ}
use Rattle.answers.specs.Numbers.{number_of, is_refusal}
use Rattle.frame_layout.specs.declared.FrameRead.{FrameRead}
use Rattle.getbits.specs.Chain.{pick}
use Rattle.program.specs.Output.{refused_text}
use Rattle.tile_request.specs.Whole.{whole_layout_text}

-- its refusal, or its layout with the frame's superblock code
unfoldable pub frame_read_text : FrameRead → List ℕ
frame_read_text r =
    pick (is_refusal r.answer) (refused_text (number_of r.answer)) (whole_layout_text r.hdr.tiling r.next r.hdr.sb128)
