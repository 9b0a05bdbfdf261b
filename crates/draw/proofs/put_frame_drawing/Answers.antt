use native.Mathlib.Omega.{arith}
use Rattle.draw.proofs.Titles.{titled}
use Rattle.draw.specs.Print.{frame_draw_text}
use Rattle.getbits.proofs.Widths.{back}
use Rattle.getbits.specs.Chain.{then}
use Rattle.text.proofs.Chains.{sizes}
use Rattle.draw.proofs.put_frame_drawing.Goals as goal

pub returns : goal.returns
unfolding frame_draw_text then
returns g c =
    let p = c.put_frame.ensures in
    let q = c.put_read.ensures in
    let title = titled _ _ _ _ _ _ c.new-title.ensures p.text q.text c.as_slice.ensures p.size q.size in
    let hdr = c.frame_request-r.result.hdr in
    let drawn = rw (title, back hdr.width c.struct_told-1.given.1.0.1, back hdr.height c.struct_told-2-1.given.1.1.0.1) at c.put_drawing.ensures in
    rw (← c.frame_request-r.ensures, ← c.is_refusal.ensures, c.if-is_refusal.false, ← c.sequence_args.ensures)
    (record { text = drawn.text; size = omega (arith, drawn.size, sizes _ _ p.size q.size) })
