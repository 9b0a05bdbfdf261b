use mathlib.Core.List.{[]}
use mathlib.Core.Path.{◌≡◌, refl, sym, ◌∙◌}
use native.Mathlib.Omega.{arith}
use lib.ListN.{replicate}
use Rattle.getbits.proofs.Chain.{taken, left}
use Rattle.tile_layout.specs.Layout.{tabulate}
use Rattle.layout_bits.specs.Rows.{bytes_of}
use Rattle.layout_bits.specs.Bits.{layout_bits}
use Rattle.layout_row.specs.Row.{row_of}
use Rattle.layout_row.specs.Inner.{Holds}
use Rattle.layout_row.proofs.layout_row.Goals as goal

-- no bit makes bytes that are 0
none : replicate 177 0 ≡ bytes_of 177 []
unfolding bytes_of tabulate
none = refl

empty : Holds (replicate 177 0) 0 []
empty = record { made = none; long = refl; small = λ k. omega arith }

pub put_layout_bits_requires : goal.put_layout_bits_requires
put_layout_bits_requires c = sym c.has_row.ensures ∙ c.if-has_row.true

pub returns-then-has_row : goal.returns-then-has_row
unfolding row_of
returns-then-has_row c =
    let a = c.args in
    let h = c.put_layout-bits.ensures.holds [] empty in
    rw (taken _ (layout_bits a.a a.t) [] (sym c.has_row.ensures ∙ c.if-has_row.true)) (h.long, h.made)

pub returns : goal.returns
unfolding row_of
returns c =
    let a = c.args in
    rw (left _ (layout_bits a.a a.t) [] (sym c.has_row.ensures ∙ c.if-has_row.false)) (refl, none)
