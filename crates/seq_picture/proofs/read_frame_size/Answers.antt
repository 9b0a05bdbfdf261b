use mathlib.Core.Path.{◌≡◌, sym, ◌∙◌}
use borrow.Author.Rules.{rules}
use mir.Syntax.{w32}
use mir.Val.{to_z, of_z}
use Rattle.getbits.proofs.Chain.{through}
use Rattle.seq_picture.specs.Picture.{read_frame_size}
use Rattle.seq_picture.proofs.read_frame_size.Goals as goal

-- the lengths, read back from their bits
width : (c : goal.After-result-1) → to_z w32 (of_z w32 c.read_length-width.result.value) ≡ c.read_length-width.result.value
width c = search rules

height : (c : goal.After-result-1) → to_z w32 (of_z w32 c.read_length-height.result.value) ≡ c.read_length-height.result.value
height c = search rules

pub returns : goal.returns
unfolding read_frame_size
returns c =
    sym (through _ _ c.get_small-width_bits.ensures.is
    ∙ through _ _ c.get_small-height_bits.ensures.is
    ∙ through _ _ c.read_length-width.ensures
    ∙ through _ _ c.read_length-height.ensures
    ∙ sym (simp (width c, height c)))
