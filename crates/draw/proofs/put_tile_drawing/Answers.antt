use native.Mathlib.Omega.{arith}
use Rattle.draw.proofs.Titles.{titled}
use Rattle.draw.specs.Print.{tile_draw_text}
use Rattle.getbits.proofs.Widths.{back}
use Rattle.getbits.specs.Chain.{then}
use Rattle.text.proofs.Chains.{sizes}
use Rattle.draw.proofs.put_tile_drawing.Goals as goal

pub returns : goal.returns
unfolding tile_draw_text then
returns g c =
    let p = c.put_arguments.ensures in
    let q = c.put_read.ensures in
    let title = titled _ _ _ _ _ _ c.new-title.ensures p.text q.text c.as_slice-2.ensures p.size q.size in
    let w = c.samples-w in
    let h = c.samples-h in
    let drawn = rw (title, back w.result w.type_inv, back h.result h.type_inv, w.ensures, h.ensures) at c.put_drawing.ensures in
    rw (← c.tile_request-r.ensures, ← c.is_refusal.ensures, c.if-is_refusal.false, ← c.byte_at.ensures)
    (record { text = drawn.text; size = omega (arith, drawn.size, sizes _ _ p.size q.size) })
