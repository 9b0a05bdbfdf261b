use mathlib.Core.Path.{◌≡◌}
use Prim.Native.Nat.{◌-◌}
use lib.ListN.{length, drop}
use Rattle.tile_info.proofs.Walk.{Walked}
use Rattle.tile_info.proofs.nonuniform.read_sizes.Given as goal

abbrev pub invariant_loop_total : goal.invariant_loop_total
invariant_loop_total l =
    Walked l.s l.total.0 l.limit.0 l.initial.next (drop 65 l.initial.starts) l.starts l.next l.sbx.0 l.tiles l.widest_tile.0 × (length l.starts ≡ length l.initial.starts)

abbrev pub decreases_loop_total : goal.decreases_loop_total
decreases_loop_total l = 64 - l.tiles
