-- Buffers that have room, and a layout that comes back from them. Assumes nothing.
use mathlib.Core.Bool.{Bool, true, false, not}
use mathlib.Core.List.{List, ◌++◌}
use mathlib.Core.Path.{◌≡◌, refl, sym, ap, ◌∙◌}
use Prim.Native.Nat.{ℕ, ◌≤◌}
use native.Mathlib.Omega.{arith}
use borrow.Author.Tests.{le-leb, leb-true}
use lib.Dec.{leb, eqb}
use lib.ListN.{length, drop, length-append, length-drop, replicate}
use lib.Seq.{take_at, drop-append_seam}
use Rattle.getbits.proofs.Chain.{both, taken}
use Rattle.seq_fields.specs.Fields.{bit_of}
use Rattle.tile_layout.specs.declared.TileInfo.{TileInfo}
use Rattle.flat.specs.Layout.{over_front, Buffers, buffers, has_room, layout_bytes, put_layout, layout_in}

-- what room says of the lengths
pub record Room (b : Buffers) : Type 0 where
  pub bytes : 9 ≤ length b.bytes
  pub cols : 65 ≤ length b.col_starts
  pub rows : 65 ≤ length b.row_starts

pub room : (b : Buffers) → has_room b ≡ true → Room b
room b h =
    let starts = (both (leb 9 (length b.bytes)) _ h).1 in
    record {
      bytes = leb-true 9 (length b.bytes) (both (leb 9 (length b.bytes)) _ h).0;
      cols = leb-true 65 (length b.col_starts) (both (leb 65 (length b.col_starts)) _ starts).0;
      rows = leb-true 65 (length b.row_starts) (both (leb 65 (length b.col_starts)) _ starts).1;
    }

pub has_room_lem : (b : Buffers) → Room b → has_room b ≡ true
has_room_lem b r =
    rw (le-leb 9 (length b.bytes) r.bytes, le-leb 65 (length b.col_starts) r.cols, le-leb 65 (length b.row_starts) r.rows)

pub three : {x x' y y' z z' : List ℕ} → x ≡ x' → y ≡ y' → z ≡ z' → buffers x y z ≡ buffers x' y' z'
three ex ey ez = rw (ex, ey, ez)

-- a layout's numbers over the fronts of buffers that have room
pub put_over : (t : TileInfo) (b : Buffers) {x y z : List ℕ} → has_room b ≡ true
    → x ≡ over_front 9 (layout_bytes t) b.bytes → y ≡ over_front 65 t.col_start_sb b.col_starts → z ≡ over_front 65 t.row_start_sb b.row_starts
    → buffers x y z ≡ put_layout t b
unfolding put_layout
put_over t b h ex ey ez =
    let w = room b h in
    three (ex ∙ taken _ _ _ (le-leb 9 _ w.bytes)) (ey ∙ taken _ _ _ (le-leb 65 _ w.cols)) (ez ∙ taken _ _ _ (le-leb 65 _ w.rows))
    ∙ sym (taken _ _ _ h)

flag_back : (b : Bool) → not (eqb (bit_of b) 0) ≡ b
flag_back true = refl
flag_back false = refl

-- xs over the front of a buffer is at least as long as xs
over_long : (xs ys : List ℕ) (n : ℕ) → length xs ≡ n → n ≤ length (xs ++ ys)
over_long xs ys n e = omega (arith, e, length-append xs ys)

-- a layout that was put: there is room for it still, and it comes back
module _ (t : TileInfo) (b : Buffers) (cols : length t.col_start_sb ≡ 65) (rows : length t.row_start_sb ≡ 65) (h : has_room b ≡ true) where
  abbrev after : Buffers
  after = buffers (layout_bytes t ++ drop 9 b.bytes) (t.col_start_sb ++ drop 65 b.col_starts) (t.row_start_sb ++ drop 65 b.row_starts)

  roomy : has_room after ≡ true
  roomy =
      has_room_lem after
      (record {
        bytes = over_long (layout_bytes t) (drop 9 b.bytes) 9 refl;
        cols = over_long t.col_start_sb (drop 65 b.col_starts) 65 cols;
        rows = over_long t.row_start_sb (drop 65 b.row_starts) 65 rows;
      })

  pub put_room : has_room (put_layout t b) ≡ true
  unfolding put_layout
  put_room = ap has_room (taken (has_room b) after b h) ∙ roomy

  pub comes_back : layout_in (put_layout t b) ≡ t
  unfolding put_layout layout_in
  comes_back =
      ap layout_in (taken (has_room b) after b h)
      ∙ taken _ _ _ roomy
      ∙ rw (flag_back t.uniform, take_at t.col_start_sb (drop 65 b.col_starts) 65 cols, take_at t.row_start_sb (drop 65 b.row_starts) 65 rows)

-- a layout comes back from buffers that keep their lengths
pub came_back : (t : TileInfo) (b b' : Buffers) → has_room b ≡ true → b' ≡ put_layout t b
    → length b'.col_starts ≡ length b.col_starts → length b'.row_starts ≡ length b.row_starts → layout_in b' ≡ t
unfolding put_layout
came_back t b b' h e cols rows =
    let w = room b h in
    let put = e ∙ taken _ _ _ h in
    let xs = t.col_start_sb in
    let ys = t.row_start_sb in
    let long = length-append xs (drop 65 b.col_starts) in
    let high = length-append ys (drop 65 b.row_starts) in
    let x = ap (λ (z : Buffers). length z.col_starts) put in
    let y = ap (λ (z : Buffers). length z.row_starts) put in
    ap layout_in e
    ∙ comes_back t b (omega (arith, long, x, cols, w.cols, length-drop 65 b.col_starts)) (omega (arith, high, y, rows, w.rows, length-drop 65 b.row_starts)) h

-- starts that are cleared: zeros, and what stood behind them
module _ (xs old : List ℕ) (room : 65 ≤ length old) (e : xs ≡ over_front 65 (replicate 65 0) old) where
  over_zeros : xs ≡ replicate 65 0 ++ drop 65 old
  over_zeros = e ∙ taken _ _ _ (le-leb 65 (length old) room)

  pub cleared_rest : drop 65 xs ≡ drop 65 old
  cleared_rest = ap (drop 65) over_zeros ∙ drop-append_seam (replicate 65 0) (drop 65 old)

  pub cleared_front : xs ≡ replicate 65 0 ++ drop 65 xs
  cleared_front = over_zeros ∙ ap (λ (l : List ℕ). replicate 65 0 ++ l) (sym cleared_rest)
