use Rattle.std.proofs.Common.{◌≡◌, sym, ◌∙◌, w8, to_z, of_z, rules}
use Rattle.getbits.proofs.Chain.{through}
use Rattle.seq_residual.specs.Residual.{read_quant}
use Rattle.seq_residual.proofs.read_quant.Goals as goal

-- the luma offset, read back from its bits
luma : (c : goal.After-result-1) → to_z w8 (of_z w8 c.signed_if-ydc.result.value) ≡ c.signed_if-ydc.result.value
luma c = search rules

pub returns : goal.returns
unfolding read_quant
returns c =
    sym (through _ _ c.flag_if-separate.ensures
    ∙ through _ _ c.get_flag-equal.ensures
    ∙ through _ _ c.signed_if-ydc.ensures
    ∙ through _ _ c.flag_if-ydc_on.ensures
    ∙ through _ _ c.wrapped_if-uvdc.ensures
    ∙ through _ _ c.flag_if-uvdc_on.ensures
    ∙ through _ _ c.wrapped_if-uvac.ensures
    ∙ through _ _ c.flag_if-uvac_on.ensures
    ∙ sym (simp (luma c, c.either-base_uvdc_dq.ensures)))
