use mathlib.Core.Path.{sym, ◌∙◌, ap, subst}
use Rattle.tile_limit.specs.Promises.{LimitedFrame}
use Rattle.tile_limit.specs.Within.{frame_within}
use Rattle.tile_limit.proofs.Limited.{limited_frame}
use Rattle.tile_limit.proofs.frame_layout_within.Goals as goal

pub returns : goal.returns
returns c =
    let a = c.args in
    let e = c.frame_within.ensures ∙ ap (frame_within a.limit a.hdr) c.frame_layout.ensures.value in
    record { value = e; limited_frame = subst (LimitedFrame a.s.now a.p a.hdr a.seq a.limit) (sym e) (limited_frame a.s.now a.p a.hdr a.seq a.limit) }
