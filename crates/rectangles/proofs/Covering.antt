-- The rectangles of a layout read fresh cover the picture. Assumes nothing.
use mathlib.Core.Bool.{true}
use mathlib.Core.List.{List}
use mathlib.Core.Path.{◌≡◌, refl, ap, ◌∙◌}
use Prim.Native.Nat.{ℕ, zero, suc, ◌+◌, ◌-◌, ◌*◌, ◌≤◌, ◌<◌}
use native.Mathlib.Nat.{zero-add, mul_comm, mul-le-mul}
use native.Mathlib.Omega.{arith}
use borrow.Author.Tests.{le-leb}
use lib.ListN.{get_or}
use Rattle.getbits.specs.declared.Place.{Place}
use Rattle.tile_layout.specs.Demand3.{AcceptedLayout}
use Rattle.tile_layout.specs.Layout.{sum, tabulate}
use Rattle.tile_layout.specs.Limits.{in_domain, size, superblocks}
use Rattle.tile_layout.specs.declared.TileArgs.{TileArgs}
use Rattle.tile_layout.specs.declared.TileInfo.{TileInfo}
use Rattle.tile_layout.proofs.Demand3.{FromZero}
use Rattle.tile_layout.proofs.Domain.{domain, across, down, low_code}
use Rattle.tile_layout.proofs.Laws.{telescope}
use Rattle.rectangles.specs.Rectangles.{rising, has_rectangles, edge, reach}
use Rattle.rectangles.specs.Covering.{areas, Covering}
use Rattle.rectangles.proofs.Rising.{never_fall}
use Rattle.rectangles.proofs.Lines.{Line, climbs, apart, found, alone, all_sums, cut_line}

-- so many superblocks reach over n samples, and one less does not
reached : (n code : ℕ) → code ≤ 2 → (1 ≤ size code) × (n ≤ superblocks n code * size code) × (superblocks n code * size code < n + size code)
unfolding superblocks
reached n zero h = omega arith
reached n (suc zero) h = omega arith
reached n (suc (suc zero)) h = omega arith
reached n (suc (suc (suc code))) h = absurd (omega arith)

-- the starts along one direction, and where they stand cut at the frame's edge
record Edges (xs : List ℕ) (n side most : ℕ) : Type 0 where
  rises : rising xs n ≡ true
  line : Line n most (edge xs side most)

edges : (xs : List ℕ) (n most code : ℕ) → code ≤ 2 → superblocks most code ≤ 1024 → get_or xs 0 0 ≡ 0 → ((i : ℕ) → i < n → 1 ≤ get_or xs (i + 1) 0 - get_or xs i 0)
    → sum (tabulate (λ i. get_or xs (i + 1) 0 - get_or xs i 0) 0 n) ≡ superblocks most code → Edges xs n (size code) most
edges xs n most code small few first filled adds =
    let e : ℕ → ℕ = λ i. get_or xs i 0 in
    let up : (i : ℕ) → i < n → e i < e (i + 1) = λ i h. omega (arith, filled i h) in
    let l : Line n (superblocks most code) e =
    record { first = first; last = omega (arith, telescope e 0 n (λ i _ h. omega (arith, up i (omega arith))), ap e (zero-add n)); steps = up } in
    let r = reached most code small in
    record {
      rises = never_fall xs n (λ i h. omega (arith, up i h)) (λ i h. omega (arith, climbs l i n h (omega arith), l.last));
      line = cut_line l (size code) most r.0 r.1 r.2;
    }

-- a layout of which demand 3 says what it says of an accepted one, and which begins at 0
pub covering : (s : List ℕ) (p : Place) (a : TileArgs) (t : TileInfo) → in_domain a ≡ true → AcceptedLayout s p a t → FromZero t
    → Covering t a.frame_code a.width a.height
unfolding has_rectangles areas sum
covering s p a t e z begins =
    let d = domain a e in
    let code = a.frame_code in
    let c = edges t.col_start_sb t.cols a.width code (low_code a d) (across a d).most_all begins.0 z.col_not_empty z.cols_add_up in
    let r = edges t.row_start_sb t.rows a.height code (low_code a d) (down a d).most_all begins.1 z.row_not_empty z.rows_add_up in
    record {
      described =
          rw (
            le-leb _ _ z.some_cols,
            le-leb _ _ z.most_cols,
            le-leb _ _ z.some_rows,
            le-leb _ _ z.most_rows,
            c.rises,
            r.rises,
            le-leb _ _ (low_code a d),
            le-leb _ _ d.some_width,
            le-leb _ _ d.most_width,
            le-leb _ _ d.some_height,
            le-leb _ _ d.most_height,
          )
          refl;
      whole =
          all_sums r.line _ a.width
          (λ row _. all_sums c.line _ (reach t.row_start_sb (size code) a.height row) (λ col _. omega arith) ∙ mul_comm a.width _)
          ∙ mul_comm a.height a.width;
      filled = λ col row h k. mul-le-mul {n₁ = 1} {m₁ = 1} (apart c.line col h) (apart r.line row k);
      held = λ x y h k.
          let col = found c.line x h in
          let row = found r.line y k in
          (col.0, row.0, col.1, row.1, (col.2.0, col.2.1, row.2.0, row.2.1));
      once = λ col row col' row' x y h k h' k' one other. (
        alone c.line col col' x h h' (one.0, one.1) (other.0, other.1),
        alone r.line row row' y k k' (one.2, one.3) (other.2, other.3),
      );
    }
