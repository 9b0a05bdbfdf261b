use mathlib.Core.Path.{◌≡◌, sym, ◌∙◌, ap, ap₂}
use Prim.Native.Nat.{ℕ, ◌+◌, ◌*◌, ◌/◌, ◌%◌, ◌^◌, max}
use native.Mathlib.Nat.{div-one}
use native.Mathlib.Omega.{arith}
use borrow.Author.Tests.{eq-eqb, ne_eqb}
use lib.Dec.{eqb}
use Rattle.tile_layout.proofs.Area.{low_tiles}
use Rattle.tile_layout.proofs.Domain.{domain}
use Rattle.tile_layout.specs.Layout.{row_area, row_limit}
use Rattle.tile_layout.specs.Limits.{sbw, sbh, min_log2_tiles}
use Rattle.getbits.proofs.Chain.{taken, left}
use Rattle.tile_info.proofs.Coded.{whole}
use Rattle.tile_info.proofs.nonuniform.max_tile_height_sb.Goals as goal

pub returns-then-k-eq0 : goal.returns-then-k-eq0
unfolding row_limit row_area
returns-then-k-eq0 c =
    let area : c.times-area.result.0 ≡ sbw c.args.a * sbh c.args.a = let k = c.requires.known in
    c.times-area.ensures ∙ whole c.args.a c.requires.in_the_domain k.across k.down in
    c.max_height.ensures
    ∙ ap (λ (x : ℕ). max 1 (x / c.args.widest_tile.0))
    (div-one _ ∙ area ∙ sym (taken (eqb (min_log2_tiles c.args.a) 0) _ _ (eq-eqb _ 0 (sym c.requires.known.min_tiles ∙ c.if-k-eq0.true))))

pub overflow_add-k : goal.overflow_add-k
overflow_add-k c = omega (arith, low_tiles _ (domain _ c.requires.in_the_domain), c.requires.known.min_tiles)

pub returns : goal.returns
unfolding row_limit row_area
returns c =
    let area : c.times-area.result.0 ≡ sbw c.args.a * sbh c.args.a = let k = c.requires.known in
    c.times-area.ensures ∙ whole c.args.a c.requires.in_the_domain k.across k.down in
    let q : (c.args.k.min_log2_tiles + 1) % 32 ≡ min_log2_tiles c.args.a + 1 = omega (arith, c.requires.known.min_tiles, low_tiles _ (domain _ c.requires.in_the_domain)) in
    c.max_height-2.ensures
    ∙ ap (λ (x : ℕ). max 1 (x / c.args.widest_tile.0))
    (ap₂ (λ (x y : ℕ). x / 2 ^ y) (area) q
    ∙ sym (left (eqb (min_log2_tiles c.args.a) 0) _ _ (ne_eqb _ 0 (λ z. c.if-k-eq0.false (c.requires.known.min_tiles ∙ z)))))
