use Rattle.std.proofs.Common.{sym, ◌∙◌}
use Rattle.getbits.proofs.Chain.{through}
use Rattle.seq_residual.specs.Filters.{read_filters}
use Rattle.seq_residual.proofs.read_filters.Goals as goal

pub returns : goal.returns
unfolding read_filters
returns c =
    sym (through _ _ c.get_flag-across.ensures
    ∙ through _ _ c.get_flag-cdef.ensures
    ∙ through _ _ c.get_flag-gdf.ensures
    ∙ through _ _ c.flag_if-gdf_unit.ensures
    ∙ through _ _ c.read_restoration-rst.ensures
    ∙ through _ _ c.get_flag-ccso.ensures
    ∙ through _ _ c.flag_if-ccso_unit.ensures
    ∙ through _ _ c.flag_if-on.ensures
    ∙ through _ _ c.flag_if-off.ensures
    ∙ through _ _ c.get_small-par_bits.ensures.is
    ∙ sym (simp c.on_skip_tx-cdef_on_skiptx.ensures))
