use mathlib.Core.Path.{◌≡◌}
use mathlib.Core.List.{map-id}
use native.Mathlib.Omega.{arith}
use borrow.Author.Rules.{rules}
use lib.IntN.{ℤ}
use lib.ListN.{length}
use Rattle.flat.proofs.Rows.{both}
use Rattle.flat_hdr.specs.Header.{flat_segmentation}
use Rattle.flat_hdr.proofs.put_segmentation.Goals as goal

pub returns : goal.returns
unfolding flat_segmentation
returns c =
    let deltas = c.args.s.d.delta_q in
    let delta_length : length deltas ≡ 16 = search rules in
    let put = rw (map-id deltas, delta_length) at (c.put_row-at.ensures.row (λ (x : ℤ). x) (λ x y h. h)) in
    both (both c.put_bytes-at.ensures put (omega (arith, c.requires))) c.put_masks.ensures (omega (arith, c.requires))
