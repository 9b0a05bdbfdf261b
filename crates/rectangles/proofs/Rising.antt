-- What is known of starts that never fall. Assumes nothing.
use mathlib.Core.Path.{◌≡◌, refl, ap}
use mathlib.Core.Bool.{Bool, true, ◌&&◌}
use mathlib.Core.List.{List}
use mathlib.Core.Logic.{⊎_elim}
use Prim.Native.Nat.{ℕ, zero, suc, ◌+◌, ◌*◌, ◌^◌, min, ◌≤◌, ◌<◌}
use native.Mathlib.Nat.{mul-le-mul, mul-le-mul_right}
use native.Mathlib.Numerals.{add-one}
use native.Mathlib.Omega.{arith}
use borrow.Author.Tests.{leb-true, le-leb}
use lib.Dec.{leb}
use lib.ListN.{get_or}
use Rattle.getbits.proofs.Chain.{both}
use Rattle.getbits.proofs.Places.{lt_or_le}
use Rattle.tile_layout.specs.Limits.{is_size}
use Rattle.tile_layout.proofs.Domain.{sized}
use Rattle.tile_layout.specs.declared.TileInfo.{TileInfo}
use Rattle.rectangles.specs.Rectangles.{rising, is_count, has_rectangles}

-- one start more
pub rising_more : (xs : List ℕ) (i : ℕ) {good : Bool} {a b : ℕ} → good ≡ rising xs i → a ≡ get_or xs i 0 → b ≡ get_or xs (i + 1) 0 → good && (leb a b && leb b 1024) ≡ rising xs (i + 1)
unfolding rising
rising_more xs i e f g = rw (e, f, g, add-one i)

-- each start up to the closing one is at most 1,024, and the next is no smaller
pub start_le : (xs : List ℕ) (n i : ℕ) → rising xs n ≡ true → i ≤ n → get_or xs i 0 ≤ 1024
unfolding rising
start_le xs zero i h l = let e : i ≡ 0 = omega arith in rw e (leb-true (get_or xs 0 0) 1024 h)
start_le xs (suc n) i h l =
    let w = both (rising xs n) (leb (get_or xs n 0) (get_or xs (suc n) 0) && leb (get_or xs (suc n) 0) 1024) h in
    ⊎_elim (λ k. start_le xs n i w.0 (omega arith))
    (λ k. let e : i ≡ suc n = omega arith in rw e (leb-true (get_or xs (suc n) 0) 1024 (both (leb (get_or xs n 0) (get_or xs (suc n) 0)) (leb (get_or xs (suc n) 0) 1024) w.1).1))
    (lt_or_le i (suc n))

start_rises : (xs : List ℕ) (n i : ℕ) → rising xs n ≡ true → i < n → get_or xs i 0 ≤ get_or xs (i + 1) 0
unfolding rising
start_rises xs zero i h l = absurd (omega arith)
start_rises xs (suc n) i h l =
    let w = both (rising xs n) (leb (get_or xs n 0) (get_or xs (suc n) 0) && leb (get_or xs (suc n) 0) 1024) h in
    ⊎_elim (λ k. start_rises xs n i w.0 k)
    (λ k. let e : i ≡ n = omega arith in rw (e, add-one n) (leb-true (get_or xs n 0) (get_or xs (suc n) 0) (both (leb (get_or xs n 0) (get_or xs (suc n) 0)) (leb (get_or xs (suc n) 0) 1024) w.1).0))
    (lt_or_le i n)

-- and the other way
pub never_fall : (xs : List ℕ) (n : ℕ) → ((i : ℕ) → i < n → get_or xs i 0 ≤ get_or xs (i + 1) 0) → ((i : ℕ) → i ≤ n → get_or xs i 0 ≤ 1024) → rising xs n ≡ true
unfolding rising
never_fall xs zero up low = le-leb (get_or xs 0 0) 1024 (low 0 (omega arith))
never_fall xs (suc n) up low =
    rw (
      never_fall xs n (λ i h. up i (omega arith)) (λ i h. low i (omega arith)),
      le-leb (get_or xs n 0) (get_or xs (suc n) 0) (omega (arith, up n (omega arith), ap (λ (i : ℕ). get_or xs i 0) (add-one n))),
      le-leb (get_or xs (suc n) 0) 1024 (low (suc n) (omega arith)),
    )
    refl

-- what a tile's rectangle asks of the starts around it
pub record Steps (xs : List ℕ) (i : ℕ) : Type 0 where
  pub next : get_or xs (i + 1) 0 ≤ 1024
  pub rises : get_or xs i 0 ≤ get_or xs (i + 1) 0

pub steps : (xs : List ℕ) (n i : ℕ) → rising xs n ≡ true → i < n → Steps xs i
steps xs n i h l = record { next = start_le xs n (i + 1) h (omega arith); rises = start_rises xs n i h l }

-- a start in samples
pub samples_lt : (a s : ℕ) → a ≤ 1024 → s ≤ 256 → a * s < 2 ^ 32
samples_lt a s h k = omega (arith, mul-le-mul h k)

-- a start that is no smaller stands no further left, cut at the frame's edge
pub edge_le : (a b side most : ℕ) → a ≤ b → min (a * side) most ≤ min (b * side) most
edge_le a b side most h = omega (arith, mul-le-mul_right {m = a} {n = b} side h)

-- a layout that has rectangles
pub record Described (t : TileInfo) (code : ℕ) : Type 0 where
  pub small_code : code ≤ 2
  pub some_cols : 1 ≤ t.cols
  pub some_rows : 1 ≤ t.rows
  pub most_cols : t.cols ≤ 64
  pub most_rows : t.rows ≤ 64
  pub across : rising t.col_start_sb t.cols ≡ true
  pub down : rising t.row_start_sb t.rows ≡ true

pub described : (t : TileInfo) (code w h : ℕ) → has_rectangles t code w h ≡ true → Described t code
unfolding has_rectangles
described t code w h e =
    let coded = both _ (leb code 2) (both _ (is_size w) (both _ (is_size h) e).0).0 in
    let down = both _ (rising t.row_start_sb t.rows) coded.0 in
    let across = both _ (rising t.col_start_sb t.cols) down.0 in
    let counts = both (is_count t.cols) (is_count t.rows) across.0 in
    let cols = both (leb 1 t.cols) (leb t.cols 64) counts.0 in
    let rows = both (leb 1 t.rows) (leb t.rows 64) counts.1 in
    record {
      small_code = leb-true code 2 coded.1;
      some_cols = leb-true 1 t.cols cols.0;
      some_rows = leb-true 1 t.rows rows.0;
      most_cols = leb-true t.cols 64 cols.1;
      most_rows = leb-true t.rows 64 rows.1;
      across = across.1;
      down = down.1;
    }

-- and its frame
pub frame_sizes : (t : TileInfo) (code w h : ℕ) → has_rectangles t code w h ≡ true → (w ≤ 65536) × (h ≤ 65536)
unfolding has_rectangles
frame_sizes t code w h e =
    let rest = is_count t.cols && is_count t.rows && rising t.col_start_sb t.cols && rising t.row_start_sb t.rows && leb code 2 in
    let sizes = both (rest && is_size w) (is_size h) e in
    ((sized w (both rest (is_size w) sizes.0).1).1, (sized h sizes.1).1)

-- 64 columns of 64 rows
pub tiles_le : (t : TileInfo) (code w h : ℕ) → has_rectangles t code w h ≡ true → t.cols * t.rows ≤ 4096
tiles_le t code w h e = let d = described t code w h e in mul-le-mul d.most_cols d.most_rows
