use mathlib.Core.List.{List, ◌++◌}
use mathlib.Core.Path.{◌≡◌, refl, ap, ◌∙◌}
use Prim.Native.Nat.{ℕ, ◌+◌, ◌*◌, ◌≤◌, ◌<◌}
use native.Mathlib.Nat.{zero-add, mul_assoc, mul-add, mul-le-mul_left}
use native.Mathlib.Omega.{arith}
use lib.Seq.{sets, sets-eq}
use lib.ListN.{length, drop}
use Rattle.tile_layout.specs.declared.TileInfo.{TileInfo}
use Rattle.rectangles.proofs.Rising.{described, steps}
use Rattle.rectangles.proofs.Each.{each_length, store_more}
use Rattle.rectangles.specs.Rectangles.{rectangle_numbers, each, rectangles}
use Rattle.rectangles.proofs.put_rows.Invariants.{across}
use Rattle.rectangles.proofs.put_rows.Goals as goal

-- the tiles of each row
abbrev tiles : TileInfo → ℕ → ℕ → ℕ → ℕ → List ℕ
tiles t side w h = across t.col_start_sb t.row_start_sb side w h t.cols

tiles_long : (t : TileInfo) (side w h row : ℕ) → length (tiles t side w h row) ≡ 4 * t.cols
tiles_long t side w h row = each_length _ 4 (λ _. refl) t.cols

-- the buffer has room for a row more
room : (t : TileInfo) (row long : ℕ) → rectangle_numbers t ≤ long → row < t.rows → 4 * t.cols * row + 4 * t.cols ≤ long
room t row long fits h =
    omega (arith, fits, mul_assoc 4 t.cols t.rows, mul-add (4 * t.cols) row 1, mul-le-mul_left {m = row + 1} {n = t.rows} (4 * t.cols) (omega arith))

pub side_of-side-requires : goal.side_of-side-requires
side_of-side-requires c = let a = c.args in (described a.t a.sb128 a.w a.h c.requires.0).small_code

pub loop-row-init : goal.loop-row-init
unfolding each
loop-row-init c = refl

pub span_of-down-requires : goal.span_of-down-requires
span_of-down-requires c =
    let a = c.args in
    let k = described a.t a.sb128 a.w a.h c.requires.0 in
    let w = steps a.t.row_start_sb a.t.rows c.loop-row.row k.down c.loop-row-test.true in
    (w.rises, w.next, c.side_of-side.ensures.1, omega (arith, c.loop-row-test.true, k.most_rows))

pub put_row-requires : goal.put_row-requires
put_row-requires c =
    let a = c.args in
    let k = described a.t a.sb128 a.w a.h c.requires.0 in
    (room a.t c.loop-row.row (length c.loop-row.out) (omega arith) c.loop-row-test.true, k.across, k.most_cols, c.side_of-side.ensures.1)

pub loop-row-preserved : goal.loop-row-preserved
loop-row-preserved c =
    let a = c.args in
    let side = c.side_of-side.result in
    let down = c.span_of-down.ensures in
    store_more (tiles a.t side a.w a.h) (4 * a.t.cols) (tiles_long a.t side a.w a.h) c.loop-row.row 0 _ a.out.now c.loop-row.out _ (omega arith) c.loop-row.invariant
    (rw (down.0, down.1) at c.put_row.ensures)

pub returns : goal.returns
unfolding rectangles
returns c =
    let a = c.args in
    let f = tiles a.t c.side_of-side.result a.w a.h in
    let e : c.loop-row.row ≡ a.t.rows = omega arith in
    let all = each a.t.rows f in
    let long : length all ≡ rectangle_numbers a.t = each_length f (4 * a.t.cols) (tiles_long a.t c.side_of-side.result a.w a.h) a.t.rows ∙ mul_assoc 4 a.t.cols a.t.rows in
    c.loop-row.invariant
    ∙ ap (λ (n : ℕ). sets a.out.now 0 (each n f)) e
    ∙ sets-eq all a.out.now 0 (omega (arith, long, c.requires.1))
    ∙ ap (λ (n : ℕ). all ++ drop n a.out.now) (zero-add (length all) ∙ long)
    ∙ ap (λ (side : ℕ). each a.t.rows (tiles a.t side a.w a.h) ++ drop (rectangle_numbers a.t) a.out.now) c.side_of-side.ensures.0
