use mathlib.Core.Path.{sym, ◌∙◌}
use native.Mathlib.Omega.{arith}
use Rattle.getbits.proofs.Chain.{through}
use Rattle.seq_picture.specs.Picture.{read_layers}
use Rattle.seq_picture.proofs.read_layers.Goals as goal

pub returns : goal.returns
unfolding read_layers
returns c =
    record {
      is = sym (through _ _ c.small_if-lcr.ensures.is
          ∙ through _ _ c.flag_if-still.ensures
          ∙ through _ _ c.small_if-tlayer.ensures.is
          ∙ through _ _ c.small_if-mlayer.ensures.is
          ∙ through _ _ c.flag_if-monotonic.ensures);
      below = (omega (arith, c.small_if-tlayer.ensures.below), omega (arith, c.small_if-mlayer.ensures.below));
    }
