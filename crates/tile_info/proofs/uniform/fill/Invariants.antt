use mathlib.Core.List.{◌++◌}
use mathlib.Core.Path.{◌≡◌}
use Prim.Native.Nat.{◌+◌, ◌*◌, min, ◌≤◌}
use lib.ListN.{length, drop}
use Rattle.tile_layout.specs.Layout.{tabulate, padded}
use Rattle.superblocks.specs.Counts.{multiplier_of}
use Rattle.tile_info.proofs.uniform.fill.Given as goal

abbrev pub invariant-loop-i : goal.invariant-loop-i
invariant-loop-i l =
    (l.sbx.0 ≡ l.split.tile.0 * l.i + min l.i l.split.extra.0)
    × (l.i ≤ l.split.tiles.0)
    × (l.starts ≡ padded (tabulate (λ j. multiplier_of l.pair.frame_code l.pair.seq_code * (l.split.tile.0 * j + min j l.split.extra.0)) 0 l.i) ++ drop 65 l.initial.starts)
    × (length l.starts ≡ length l.initial.starts)
