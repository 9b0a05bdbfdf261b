use native.Mathlib.Omega.{arith}
use Rattle.drawing.specs.Picture.{tile_text}
use Rattle.text.proofs.Chains.{also, sizes}
use Rattle.text.specs.Text.{word}
use Rattle.drawing.proofs.put_tile.Goals as goal

pub returns : goal.returns
unfolding tile_text word
returns g c =
    rw (← c.column-across.ensures.0, ← c.row-down.ensures.0, ← c.middle.ensures.0, ← c.middle-2.ensures.0) (record { text = also _ _ _ _ c.put_marked.ensures.text c.put_label.ensures.text; size = omega (arith, sizes _ _ c.put_marked.ensures.size c.put_label.ensures.size) })
