use mathlib.Core.Path.{◌≡◌, sym}
use borrow.Author.Rules.{rules}
use mir.Val.{to_z, of_z}
use mir.Facts.{to_z-of_z}
use mir.Syntax.{w16, w32}
use Rattle.getbits.proofs.Chain.{through}
use Rattle.seg_info.specs.Seg.{delta_if}
use Rattle.seg_info.proofs.delta_if.Goals as goal

pub returns-then-cond : goal.returns-then-cond
unfolding delta_if
returns-then-cond c =
    let d = c.get_sbits-d in
    let e : to_z w32 (of_z w32 d.result.value) ≡ d.result.value = search rules in
    rw (c.if-cond.true, to_z-of_z {w = w16} (record { sfits = c.clamp.type_inv }), c.clamp.ensures, e)
    (sym (through _ _ d.ensures))

pub returns : goal.returns
unfolding delta_if
returns c = cc
