use mathlib.Core.Bool.{false}
use mathlib.Core.Path.{ap}
use Rattle.frame_layout.specs.declared.FrameHeader.{FrameHeader}
use Rattle.getbits.specs.Bits.{place_at}
use Rattle.frame_request.proofs.no_frame.Goals as goal

pub returns : goal.returns
returns c = ap (λ (h : FrameHeader). record { answer = c.args.answer; hdr = h; next = place_at 0 false }) c.frame_of-hdr.ensures
