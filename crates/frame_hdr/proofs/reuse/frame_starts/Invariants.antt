use mathlib.Core.List.{◌++◌}
use mathlib.Core.Path.{◌≡◌}
use Prim.Native.Nat.{◌*◌, ◌≤◌}
use lib.ListN.{length, get_or, take, drop}
use Rattle.tile_layout.specs.Layout.{tabulate, padded}
use Rattle.superblocks.specs.Counts.{multiplier_of}
use Rattle.frame_hdr.proofs.reuse.frame_starts.Given as goal

abbrev pub invariant-loop-i : goal.invariant-loop-i
invariant-loop-i l =
    (l.i ≤ l.tiles)
    × (l.at ≡ padded (tabulate (λ k. multiplier_of l.pair.frame_code l.pair.seq_code * get_or (take 65 l.starts) k 0) 0 l.i) ++ drop 65 l.initial.at)
    × (length l.at ≡ length l.initial.at)
