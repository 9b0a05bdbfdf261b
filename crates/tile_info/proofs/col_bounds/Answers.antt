use mathlib.Core.Path.{sym, ◌∙◌}
use Rattle.getbits.proofs.Chain.{taken, left}
use Rattle.tile_info.proofs.col_bounds.Goals as goal

pub frame_limits_k_requires : goal.frame_limits_k_requires
frame_limits_k_requires c = sym c.in_domain.ensures ∙ c.if-in_domain.true

pub returns-then-in_domain : goal.returns-then-in_domain
returns-then-in_domain c =
    let e = sym c.in_domain.ensures ∙ c.if-in_domain.true in
    (c.frame_limits-k.ensures.across ∙ sym (taken _ _ _ e), c.frame_limits-k.ensures.wide ∙ sym (taken _ _ _ e))

pub returns : goal.returns
returns c =
    let e = sym c.in_domain.ensures ∙ c.if-in_domain.false in
    (c.no_bounds.ensures.0 ∙ sym (left _ _ _ e), c.no_bounds.ensures.1 ∙ sym (left _ _ _ e))
