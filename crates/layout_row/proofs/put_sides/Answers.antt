use mathlib.Core.Path.{◌≡◌, ap, ap₂, ◌∙◌}
use Prim.Native.Nat.{ℕ}
use native.Mathlib.Omega.{arith}
use Rattle.getbits.proofs.Chain.{taken}
use Rattle.tile_layout.specs.Limits.{sbw, sbh, width_limit}
use Rattle.tile_layout.specs.Layout.{widest, row_limit}
use Rattle.tile_layout.proofs.Domain.{domain, across, down}
use Rattle.layout_bits.specs.Bits.{sizes_code, sides_code, col_sizes, row_sizes}
use Rattle.layout_row.proofs.Append.{are, both}
use Rattle.layout_row.proofs.put_sides.Goals as goal

pub put_sizes_end_requires : goal.put_sizes_end_requires
put_sizes_end_requires c =
    let total : c.col_bounds.result.total.0 ≡ sbw c.args.a = c.col_bounds.ensures.0 ∙ taken _ _ _ c.requires.1 in
    (omega (arith, c.requires.0, c.requires.2), omega (arith, total, (across _ (domain _ c.requires.1)).most_all))

pub put_sizes_requires : goal.put_sizes_requires
put_sizes_requires c =
    let total : c.row_bounds.result.total.0 ≡ sbh c.args.a = c.row_bounds.ensures.0 ∙ taken _ _ _ c.requires.1 in
    (omega (arith, c.requires.0, c.requires.2, c.requires.3, c.put_sizes-end.ensures.1), omega (arith, total, (down _ (domain _ c.requires.1)).most_all))

pub returns : goal.returns
unfolding sides_code
returns c =
    let a = c.args.a in
    let t = c.args.t in
    let total : c.col_bounds.result.total.0 ≡ sbw a = c.col_bounds.ensures.0 ∙ taken _ _ _ c.requires.1 in
    let limit : c.col_bounds.result.limit.0 ≡ width_limit a = c.col_bounds.ensures.1 ∙ taken _ _ _ c.requires.1 in
    let total_down : c.row_bounds.result.total.0 ≡ sbh a = c.row_bounds.ensures.0 ∙ taken _ _ _ c.requires.1 in
    let limit_down : c.row_bounds.result.limit.0 ≡ row_limit a (widest (col_sizes t)) =
    c.row_bounds.ensures.1 ∙ taken _ _ _ c.requires.1 ∙ ap (row_limit a) c.widest_of-widest_tile.ensures in
    both (are (ap₂ (λ (x y : ℕ). sizes_code x y (col_sizes t)) total limit) c.put_sizes-end.ensures.0)
    (are (ap₂ (λ (x y : ℕ). sizes_code x y (row_sizes t)) total_down limit_down) c.put_sizes.ensures.0)
