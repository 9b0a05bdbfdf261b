use Rattle.std.proofs.Common.{ℕ, ◌-◌, ◌/◌, ◌%◌, ◌^◌, sym, ap, ◌∙◌, eq-eqb, ne_eqb}
use lib.Bits.{bit_and, and_mask}
use Rattle.tile_layout.specs.Layout.{base, count, larger}
use Rattle.getbits.proofs.Chain.{taken, left}
use Rattle.superblocks.proofs.even_split.Goals as goal

pub returns-then-tile-eq0 : goal.returns-then-tile-eq0
unfolding base count larger
returns-then-tile-eq0 c =
    let a = c.args in
    let b = c.shifted.ensures in
    let t = eq-eqb (a.fsb.0 / 2 ^ (a.log2 % 32)) 0 (sym b ∙ c.if-tile-eq0.true) in
    (b, sym (taken _ _ _ t), sym (taken _ _ _ t))

pub returns : goal.returns
unfolding base count larger
returns c =
    let a = c.args in
    let b = c.shifted.ensures in
    let e = c.power-max_tiles.ensures.0 in
    let t = ne_eqb (a.fsb.0 / 2 ^ (a.log2 % 32)) 0 (λ x. c.if-tile-eq0.false (b ∙ x)) in
    (b, e ∙ sym (left _ _ _ t), ap (λ (x : ℕ). bit_and a.fsb.0 (x - 1)) e ∙ and_mask a.fsb.0 (a.log2 % 32) ∙ sym (left _ _ _ t))
