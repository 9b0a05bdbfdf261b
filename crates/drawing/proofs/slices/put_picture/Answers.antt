use mathlib.Core.List.{List, append_assoc}
use mathlib.Core.Path.{◌≡◌, ap, ◌∙◌}
use Prim.Native.Nat.{ℕ, ◌+◌, ◌-◌, ◌*◌}
use native.Mathlib.Omega.{arith}
use lib.ListN.{take, drop}
use Rattle.drawing.specs.Drawing.{picture_text, columns_end, rows_end}
use Rattle.drawing.specs.View.{rect_of, column_of, row_of, behind_of}
use Rattle.drawing.specs.declared.Span.{Span}
use Rattle.text.proofs.Chains.{also as also_put, sizes}
use Rattle.text.proofs.Placed.{also, printed, within}
use Rattle.text.specs.Text.{word}
use Rattle.drawing.proofs.slices.put_picture.Goals as goal

pub returns : goal.returns
unfolding picture_text word
returns c =
    let a = c.args in
    let note = c.put_note.ensures in
    let grid = c.put_grid.ensures in
    let cols = c.from-cols.result in
    let rows = c.from-rows.result in
    let xs = a.xs.now in
    let last : cols - 1 ≡ 0 * cols + (cols - 1) = omega arith in
    let low : (rows - 1) * cols ≡ (rows - 1) * cols + 0 = omega arith in
    let right : c.behind-right.result ≡ columns_end a.v cols (rect_of xs cols) =
    c.behind-right.ensures.0 ∙ ap (λ (s : Span). behind_of s (68 * a.v.unit)) (c.column.ensures.0
    ∙ ap (λ (r : List ℕ). column_of a.v (cols - 1) r) (c.rect_at.ensures ∙ ap (λ (n : ℕ). take 4 (drop (4 * n) xs)) last)) in
    let bottom : c.behind-bottom.result ≡ rows_end a.v rows (rect_of xs cols) =
    c.behind-bottom.ensures.0 ∙ ap (λ (s : Span). behind_of s (68 * a.v.unit)) (c.row.ensures.0
    ∙ ap (λ (r : List ℕ). row_of a.v (rows - 1) r) (c.rect_at-2.ensures ∙ ap (λ (n : ℕ). take 4 (drop (4 * n) xs)) low)) in
    let front = printed c.new-front.ensures (also_put _ _ _ _ note.text grid.text) (omega (arith, sizes _ _ note.size grid.size)) c.as_slice.ensures c.put_word-grid.ensures in
    let whole = also (also (also (also (also c.put_head-head.ensures front) c.put_layout-layout.ensures) c.put_columns-above.ensures) c.put_rows-left.ensures) c.put_word.ensures in
    rw (← c.from-cols.ensures, ← c.from-rows.ensures, ← right, ← bottom) (simp append_assoc (within (omega arith) (simp append_assoc at whole)))
