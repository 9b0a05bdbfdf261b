use Rattle.std.proofs.Common.{ℕ, ◌/◌, max, ap, ◌∙◌}
use native.Mathlib.Nat.{div-zero}
use Rattle.std.proofs.Math.Nat.{max_comm}
use Rattle.superblocks.proofs.AreaSb.max_height.Goals as goal

pub returns-then-widest_tile-eq0 : goal.returns-then-widest_tile-eq0
returns-then-widest_tile-eq0 c = rw (c.if-widest_tile-eq0.true, div-zero)

pub returns : goal.returns
returns c =
    c.max.ensures ∙ max_comm _ 1 ∙ ap (max 1) (c.quotient.ensures ∙ ap (λ (x : ℕ). x / c.args.widest_tile.0) c.shifted.ensures)
