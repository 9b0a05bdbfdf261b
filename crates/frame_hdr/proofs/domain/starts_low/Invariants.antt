use mathlib.Core.Path.{◌≡◌}
use lib.ListN.{take}
use Rattle.frame_layout.specs.Frame.{starts_low}
use Rattle.frame_hdr.proofs.domain.starts_low.Given as goal

abbrev pub invariant-loop-start : goal.invariant-loop-start
invariant-loop-start l = l.low ≡ starts_low (take 65 l.starts) l.start-index
