-- What the two rules read and make is the definition's. Assumes nothing.
use mathlib.Core.Path.{◌≡◌, refl, sym, ◌∙◌, ap}
use mathlib.Core.Bool.{true, false}
use mathlib.Core.List.{List}
use Prim.Native.Nat.{ℕ, ◌-◌, ◌≤◌}
use Rattle.answers.specs.declared.Answer.TheVariants.{Accepted}
use Rattle.getbits.specs.Chain.{then}
use Rattle.getbits.specs.declared.Place.{Place}
use Rattle.getbits.proofs.Chain.{through, taken, left}
use Rattle.tile_layout.specs.declared.TileArgs.{TileArgs}
use Rattle.tile_layout.specs.declared.TileInfo.{TileInfo}
use borrow.Author.Tests.{le-ltb}
use Rattle.answers.specs.Numbers.{is_refusal}
use Rattle.tile_layout.proofs.Sized.{all_filled}
use Rattle.tile_layout.specs.Limits.{sbw, sbh, width_limit}
use Rattle.tile_layout.specs.Layout.{Sizes, read_sizes, widest, padded, non_uniform_edges, read_log2, uniform_count, uniform_edges, uniform_info, uniform_layout, row_limit, invalid_tile_info, read_cols, read_rows, non_uniform_info, non_uniform_layout}
use Rattle.tile_info.specs.declared.limits.FrameLimits.{FrameLimits}
use Rattle.tile_info.specs.declared.nonuniform.Tiles.{Tiles}
use Rattle.tile_info.specs.Inner.{Known, TilesOf}

module _ (s : List ℕ) (p : Place) {a : TileArgs} {k : FrameLimits} (n : Known a k) where
  pub uniform_made : (c r : ℕ) (cn rn : Place) (m x y : ℕ) (xs ys : List ℕ)
      → c ≡ (read_log2 s p k.min_log2_cols k.max_log2_cols).value
      → cn ≡ (read_log2 s p k.min_log2_cols k.max_log2_cols).next
      → m ≡ k.min_log2_tiles - c
      → r ≡ (read_log2 s cn m k.max_log2_rows).value
      → rn ≡ (read_log2 s cn m k.max_log2_rows).next
      → x ≡ uniform_count a a.width c → xs ≡ padded (uniform_edges a a.width c)
      → y ≡ uniform_count a a.height r → ys ≡ padded (uniform_edges a a.height r)
      → record {
        answer = Accepted;
        info =
            record {
              uniform = true;
              min_log2_cols = k.min_log2_cols;
              max_log2_cols = k.max_log2_cols;
              log2_cols = c;
              cols = x;
              min_log2_rows = m;
              max_log2_rows = k.max_log2_rows;
              log2_rows = r;
              rows = y;
              col_start_sb = xs;
              row_start_sb = ys;
            };
        next = rn;
      }
      ≡ uniform_layout s p a
  unfolding uniform_layout uniform_info then
  uniform_made c r cn rn m x y xs ys cv ecn em rv ern ex exs ey eys =
      rw (ex, exs, ey, eys, rv, ern, em, cv, ecn, n.min_cols, n.max_cols, n.max_rows, n.min_tiles) refl

module _ (s : List ℕ) (p : Place) (old : TileInfo) {a : TileArgs} {k : FrameLimits} (n : Known a k) where
  -- the columns that a program reads
  abbrev pub sizes : Sizes
  sizes = read_sizes 64 s p k.sbw.0 k.max_tile_width_sb.0

  sizes_are : sizes ≡ read_cols s p a
  unfolding read_cols
  sizes_are = rw (n.across, n.wide) refl

  module _ {rest xs : List ℕ} (c : Tiles) (z : TilesOf sizes k.sbw.0 c rest xs) where
    cols : TilesOf (read_cols s p a) (sbw a) c rest xs
    cols = rw (sizes_are, n.across) at z

    pub cols_short : c.short ≡ true → invalid_tile_info old c.next ≡ non_uniform_layout s p old a
    unfolding non_uniform_layout
    cols_short e = sym (through _ _ refl ∙ taken _ _ _ (sym cols.left ∙ e) ∙ ap (invalid_tile_info old) (sym cols.stands))

    -- the rows, behind columns that suffice
    module _ {rest' ys : List ℕ} (r : Tiles) (h : ℕ) (e : c.short ≡ false) (eh : h ≡ row_limit a c.widest.0)
        (y : TilesOf (read_sizes 64 s c.next k.sbh.0 h) k.sbh.0 r rest' ys) where
      heights_are : read_sizes 64 s c.next k.sbh.0 h ≡ read_rows s (read_cols s p a) a
      unfolding read_rows
      heights_are = rw (eh, cols.wides, cols.stands, n.down) refl

      rows : TilesOf (read_rows s (read_cols s p a) a) (sbh a) r rest' ys
      rows = rw (heights_are, n.down) at y

      pub rows_short : r.short ≡ true → invalid_tile_info old r.next ≡ non_uniform_layout s p old a
      unfolding non_uniform_layout
      rows_short f =
          sym (
          through _ _ refl ∙ left _ _ _ (sym cols.left ∙ e) ∙ through _ _ refl ∙ taken _ _ _ (sym rows.left ∙ f)
          ∙ ap (invalid_tile_info old) (sym rows.stands)
          )

      -- the layout as the program has its numbers
      abbrev pub sized : ℕ → TileInfo
      sized m =
          record {
            uniform = false;
            min_log2_cols = k.min_log2_cols;
            max_log2_cols = k.max_log2_cols;
            log2_cols = c.log2;
            cols = c.tiles;
            min_log2_rows = m;
            max_log2_rows = k.max_log2_rows;
            log2_rows = r.log2;
            rows = r.tiles;
            col_start_sb = padded (non_uniform_edges sizes.sizes k.sbw.0);
            row_start_sb = padded (non_uniform_edges (read_sizes 64 s c.next k.sbh.0 h).sizes k.sbh.0);
          }

      pub sized_made : r.short ≡ false → (m : ℕ) → m ≡ old.min_log2_rows
          → record { answer = Accepted; info = sized m; next = r.next } ≡ non_uniform_layout s p old a
      unfolding non_uniform_layout non_uniform_info
      sized_made f m em =
          rw (em, n.min_cols, n.max_cols, n.max_rows, cols.log, cols.counted, rows.log, rows.counted, rows.stands, heights_are, sizes_are, n.across, n.down)
          (sym (through _ _ refl ∙ left _ _ _ (sym cols.left ∙ e) ∙ through _ _ refl ∙ left _ _ _ (sym rows.left ∙ f)))

-- at most 64 superblocks across and down: no refusal
pub never_refused : (s : List ℕ) (p : Place) (old : TileInfo) (a : TileArgs) → sbw a ≤ 64 → sbh a ≤ 64 → is_refusal (non_uniform_layout s p old a).answer ≡ false
unfolding non_uniform_layout read_cols read_rows then
never_refused s p old a across down =
    let c = read_cols s p a in
    let r = read_rows s c a in
    rw (le-ltb _ _ (all_filled 64 s p (sbw a) (width_limit a) across), le-ltb _ _ (all_filled 64 s c.next (sbh a) (row_limit a (widest c.sizes)) down)) refl
