use mathlib.Core.Path.{sym, ◌∙◌, ap}
use mathlib.Core.Bool.{Bool, ◌&&◌}
use lib.Dec.{leb}
use lib.ListN.{take}
use borrow.Author.Tests.{leb-true}
use Rattle.getbits.proofs.Chain.{both}
use Rattle.frame_layout.specs.Frame.{starts_low, usable_tiles}
use Rattle.frame_hdr.proofs.domain.usable_tiles.Goals as goal

pub starts_low_requires : goal.starts_low_requires
starts_low_requires c =
    let a = c.args in
    let few = both (leb 1 a.tiles && leb a.tiles 64) (leb a.log2 6) c.if-tiles-log2.true in
    (leb-true a.tiles 64 (both (leb 1 a.tiles) (leb a.tiles 64) few.0).1, c.requires)

pub returns-then-tiles-log2 : goal.returns-then-tiles-log2
unfolding usable_tiles
returns-then-tiles-log2 c =
    let a = c.args in
    c.starts_low.ensures ∙ sym (ap (λ (b : Bool). b && starts_low (take 65 a.starts.now) a.tiles) c.if-tiles-log2.true)

pub returns : goal.returns
unfolding usable_tiles
returns c =
    let a = c.args in
    sym (ap (λ (b : Bool). b && starts_low (take 65 a.starts.now) a.tiles) c.if-tiles-log2.false)
