use mathlib.Core.Path.{◌≡◌}
use Prim.Native.Nat.{ℕ}
use native.Mathlib.Omega.{arith}
use lib.ListN.{length}
use Rattle.flat.proofs.Rows.{both}
use Rattle.flat_grain.specs.Grain.{flat_plane}
use Rattle.flat_grain.proofs.Parts.{three}
use Rattle.flat_grain.proofs.put_points.Goals as goal

pub returns : goal.returns
returns c =
    record { put_at = both (both c.put_plane-at.ensures c.put_plane-at-2.ensures (omega (arith, c.requires))) c.put_plane.ensures (omega (arith, c.requires)); by_index = three (λ (pl : ℕ). length (flat_plane c.args.points pl) ≡ 28) c.put_plane-at.ensures.count c.put_plane-at-2.ensures.count c.put_plane.ensures.count }
