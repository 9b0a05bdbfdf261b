use mathlib.Core.Path.{◌≡◌, ap}
use Prim.Native.Nat.{ℕ, ◌+◌, ◌*◌}
use native.Mathlib.Omega.{arith}
use borrow.Author.Rules.{rules}
use lib.ListN.{get_or, take, drop}
use Rattle.drawing.specs.Drawing.{columns_text}
use Rattle.drawing.specs.Picture.{above_text}
use Rattle.drawing.specs.View.{column_of}
use Rattle.rectangles.proofs.Each.{each_same}
use Rattle.text.proofs.Chains.{also, sizes}
use Rattle.drawing.proofs.put_columns.Goals as goal

pub put_above-requires : goal.put_above-requires
put_above-requires g c = (search rules, c.requires.0.unit)

pub returns : goal.returns
unfolding columns_text
returns g c =
    let a = c.args in
    let first = each_same (λ i. above_text a.v.unit (column_of a.v i (take 4 (drop (4 * (0 * a.cols + i)) a.xs.now))) (get_or a.starts.now i 0)) _ a.cols
    (λ i _. let e : 0 * a.cols + i ≡ i = omega arith in ap (λ (k : ℕ). above_text a.v.unit (column_of a.v i (take 4 (drop (4 * k) a.xs.now))) (get_or a.starts.now i 0)) e) in
    let p = c.put_column_starts.ensures in
    let q = rw c.start_at.ensures at c.put_above.ensures in
    rw first (record { text = also _ _ _ _ p.text q.text; size = omega (arith, sizes _ _ p.size q.size) })
