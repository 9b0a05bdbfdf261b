use mathlib.Core.List.{map-id}
use mathlib.Core.Path.{◌≡◌}
use borrow.Author.Rules.{rules}
use lib.IntN.{ℤ}
use lib.ListN.{length}
use Rattle.flat_grain.proofs.put_plane_coeffs.Goals as goal

pub returns : goal.returns
returns c =
    let coeffs = c.args.list.coeffs in
    let count : length coeffs ≡ 28 = search rules in
    rw (map-id coeffs, count) at (c.put_row.ensures.row (λ (x : ℤ). x) (λ x y h. h))
