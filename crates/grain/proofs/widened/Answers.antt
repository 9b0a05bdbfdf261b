use mathlib.Core.List.{map-id}
use mathlib.Core.Path.{◌≡◌, sym, ◌∙◌}
use borrow.Author.Rules.{rules}
use lib.IntN.{ℤ, pos}
use lib.ListN.{length, replicate, length-replicate}
use Rattle.flat.proofs.Rows.{put_all}
use Rattle.grain.proofs.widened.Goals as goal

pub returns : goal.returns
returns c =
    let xs = c.args.xs in
    let count : length xs ≡ 186 = search rules in
    (rw (map-id xs) at (c.put_row.ensures.row (λ (x : ℤ). x) (λ x y h. h))).stands
    ∙ put_all (replicate 186 (pos 0)) xs (length-replicate 186 (pos 0) ∙ sym count)
