use mathlib.Core.Path.{◌≡◌, sym, ◌∙◌, ap}
use Rattle.getbits.proofs.Chain.{taken, left}
use Rattle.frame_layout.specs.Frame.{frame_tiles}
use Rattle.tile_limit.specs.Within.{is_too_many, frame_within}
use Rattle.tile_limit.proofs.frame_within.Goals as goal

pub returns-then-is_too_many : goal.returns-then-is_too_many
unfolding frame_within
returns-then-is_too_many c =
    let asked : c.is_too_many.result ≡ is_too_many c.args.limit (frame_tiles c.args.r) = c.is_too_many.ensures ∙ ap (is_too_many c.args.limit) c.frame_tiles.ensures in
    sym (taken _ _ _ (sym (asked) ∙ c.if-is_too_many.true))

pub returns : goal.returns
unfolding frame_within
returns c =
    let asked : c.is_too_many.result ≡ is_too_many c.args.limit (frame_tiles c.args.r) = c.is_too_many.ensures ∙ ap (is_too_many c.args.limit) c.frame_tiles.ensures in
    sym (left _ _ _ (sym (asked) ∙ c.if-is_too_many.false))
