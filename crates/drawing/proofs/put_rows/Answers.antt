use mathlib.Core.Path.{◌≡◌, ap}
use Prim.Native.Nat.{ℕ, ◌+◌, ◌*◌}
use native.Mathlib.Omega.{arith}
use borrow.Author.Rules.{rules}
use lib.ListN.{get_or, take, drop}
use Rattle.drawing.specs.Drawing.{rows_text}
use Rattle.drawing.specs.Picture.{left_text}
use Rattle.drawing.specs.View.{row_of}
use Rattle.rectangles.proofs.Each.{each_same}
use Rattle.text.proofs.Chains.{also, sizes}
use Rattle.drawing.proofs.put_rows.Goals as goal

pub put_left-requires : goal.put_left-requires
put_left-requires g c = (search rules, c.requires.0.unit)

pub returns : goal.returns
unfolding rows_text
returns g c =
    let a = c.args in
    let first = each_same (λ j. left_text a.v.unit (row_of a.v j (take 4 (drop (4 * (j * a.cols + 0)) a.xs.now))) (get_or a.starts.now j 0)) _ a.rows
    (λ j _. let e : j * a.cols + 0 ≡ j * a.cols = omega arith in ap (λ (k : ℕ). left_text a.v.unit (row_of a.v j (take 4 (drop (4 * k) a.xs.now))) (get_or a.starts.now j 0)) e) in
    let p = c.put_row_starts.ensures in
    let q = rw c.start_at.ensures at c.put_left.ensures in
    rw first (record { text = also _ _ _ _ p.text q.text; size = omega (arith, sizes _ _ p.size q.size) })
