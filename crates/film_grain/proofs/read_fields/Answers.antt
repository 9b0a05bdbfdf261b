use mathlib.Core.Path.{◌∙◌}
use Rattle.getbits.proofs.Chain.{through}
use Rattle.film_grain.specs.Grain.{grain_fields}
use Rattle.film_grain.proofs.read_fields.Goals as goal

pub returns : goal.returns
unfolding grain_fields
returns c lists count at =
    rw (at, count)
    (through _ _ c.get_small-scaling.ensures.is
    ∙ through _ _ c.get_small-lag.ensures.is
    ∙ through _ _ c.plane_coeffs-coeffs_end.ensures
    ∙ through _ _ c.get_small-shift.ensures.is
    ∙ through _ _ c.get_small-scale.ensures.is
    ∙ through _ _ c.chroma_offsets-uv.ensures
    ∙ through _ _ c.get_flag-overlap.ensures
    ∙ through _ _ c.get_flag-clip.ensures
    ∙ through _ _ c.flag_if-identity.ensures
    ∙ through _ _ c.get_small-block.ensures.is)
