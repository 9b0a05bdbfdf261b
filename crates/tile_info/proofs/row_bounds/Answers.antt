use mathlib.Core.Path.{sym, ◌∙◌}
use Rattle.getbits.proofs.Chain.{taken, left}
use Rattle.tile_info.proofs.row_bounds.Goals as goal

pub frame_limits-k-requires : goal.frame_limits-k-requires
frame_limits-k-requires c = sym c.in_domain.ensures ∙ c.if-in_domain.true

pub max_tile_height_sb-requires : goal.max_tile_height_sb-requires
max_tile_height_sb-requires c =
    record { in_the_domain = sym c.in_domain.ensures ∙ c.if-in_domain.true; known = c.frame_limits-k.ensures }

pub returns-then-in_domain : goal.returns-then-in_domain
returns-then-in_domain c =
    let e = sym c.in_domain.ensures ∙ c.if-in_domain.true in
    (c.frame_limits-k.ensures.down ∙ sym (taken _ _ _ e), c.max_tile_height_sb.ensures ∙ sym (taken _ _ _ e))

pub returns : goal.returns
returns c =
    let e = sym c.in_domain.ensures ∙ c.if-in_domain.false in
    (c.no_bounds.ensures.0 ∙ sym (left _ _ _ e), c.no_bounds.ensures.1 ∙ sym (left _ _ _ e))
