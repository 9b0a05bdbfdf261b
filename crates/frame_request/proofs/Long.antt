-- A frame request has all that stands before its tiling bits. Assumes nothing.
use mathlib.Core.List.{List}
use mathlib.Core.Bool.{true, ◌&&◌}
use mathlib.Core.Path.{◌≡◌}
use Prim.Native.Nat.{ℕ, ◌+◌, ◌≤◌}
use borrow.Author.Tests.{leb-true}
use lib.Dec.{leb}
use lib.ListN.{length, get_or}
use Rattle.getbits.proofs.Chain.{both}
use Rattle.frame_request.specs.Request.{frame_at, is_frame_request}

pub long : (s : List ℕ) → is_frame_request s ≡ true → frame_at s + 5 ≤ length s
long s good =
    let h = both (leb (length s) 65536 && leb (frame_at s + 5) (length s)) (leb (get_or s (frame_at s) 0) 3) good in
    leb-true (frame_at s + 5) (length s) (both (leb (length s) 65536) (leb (frame_at s + 5) (length s)) h.0).1
