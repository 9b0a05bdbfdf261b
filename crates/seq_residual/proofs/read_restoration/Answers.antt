use Rattle.std.proofs.Common.{sym, ◌∙◌}
use Rattle.getbits.proofs.Chain.{through}
use Rattle.seq_residual.specs.Filters.{read_restoration}
use Rattle.seq_residual.proofs.read_restoration.Goals as goal

pub returns : goal.returns
unfolding read_restoration
returns c =
    sym (through _ _ c.get_flag-restoration.ensures
    ∙ through _ _ c.flag_if-no_pc.ensures
    ∙ through _ _ c.flag_if-no_ns.ensures
    ∙ through _ _ c.flag_if-separate.ensures
    ∙ through _ _ c.flag_if-no_ns_uv.ensures
    ∙ sym (simp (c.wiener_mask-mask.ensures, c.wiener_mask-own.ensures, c.wiener_mask-shared.ensures, c.either-uv_mask.ensures)))
