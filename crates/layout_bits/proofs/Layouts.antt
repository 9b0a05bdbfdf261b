-- The bits of a layout: what is read used them, and where they stand it is read. Assumes nothing.
use mathlib.Core.Path.{◌≡◌, refl, sym, ap, ◌∙◌, subst}
use mathlib.Core.Bool.{false}
use mathlib.Core.List.{List, [], ◌∷◌}
use Prim.Native.Nat.{ℕ, ◌+◌, ◌-◌, ◌≤◌, ◌<◌}
use native.Mathlib.Omega.{arith}
use borrow.Author.Tests.{ltb-false, le-ltb, eqb-true, eqb-false, eq-eqb, ne_eqb}
use lib.Dec.{T, ltb, eqb}
use Rattle.getbits.specs.Bits.{position, get_bit, get_flag}
use Rattle.getbits.specs.Chain.{pick, then}
use Rattle.getbits.specs.declared.Read.{Read}
use Rattle.getbits.specs.declared.Place.{Place}
use Rattle.getbits.proofs.Callers.{bit_lt}
use Rattle.getbits.proofs.Chain.{picked}
use Rattle.tile_layout.specs.declared.TileArgs.{TileArgs}
use Rattle.tile_layout.specs.declared.TileInfo.{TileInfo}
use Rattle.tile_layout.specs.declared.TileRead.{TileRead}
use Rattle.tile_layout.specs.Limits.{in_domain, sbw, sbh, width_limit, min_log2_cols, max_log2_cols, max_log2_rows, min_log2_tiles}
use Rattle.tile_layout.specs.Layout.{Sizes, sum, widest, row_limit, read_log2, read_cols, read_rows, uniform_info, uniform_layout, non_uniform_info, non_uniform_layout, parse_tile_info}
use Rattle.tile_layout.proofs.Domain.{InDomain, domain, across, down, limits}
use Rattle.tile_layout.proofs.Logs.{log_read}
use Rattle.tile_layout.proofs.Sized.{Sized, sizes_read, gap}
use Rattle.layout_bits.specs.Rows.{StandsAt, Used}
use Rattle.layout_bits.specs.Bits.{log_code, logs_code, sizes_code, sides_code, col_sizes, row_sizes, layout_bits}
use Rattle.layout_bits.specs.Readable.{InLog, Fills, Readable, even, sized}
use Rattle.layout_bits.specs.LayoutCode.{Clean, ReadAs, LayoutCode}
use Rattle.layout_bits.proofs.Rows.{split, behind, on}
use Rattle.layout_bits.proofs.Numbers.{code_bit, code_log}
use Rattle.layout_bits.proofs.Sizes.{sizes_used, sizes_reads, tabulated}

in_log : (s : List ℕ) (p : Place) (least most : ℕ) → InLog least most (read_log2 s p least most).value
in_log s p least most = record { low = (log_read s p least most).0; high = (log_read s p least most).1 }

-- ---- behind the flag: the logarithms

module _ (s : List ℕ) (p : Place) (a : TileArgs) where
  logs_known : (old : TileInfo) → Readable old a (uniform_layout s p a).info
  unfolding uniform_layout then
  logs_known old =
      let c = read_log2 s p (min_log2_cols a) (max_log2_cols a) in
      even c.value (read_log2 s c.next (min_log2_tiles a - c.value) (max_log2_rows a)).value (in_log s p _ _) (in_log s c.next _ _) refl

  logs_used : (let r = uniform_layout s p a in r.next.error ≡ false → Used s p r.next (logs_code r.info))
  unfolding uniform_layout uniform_info logs_code then
  logs_used e =
      let c = read_log2 s p (min_log2_cols a) (max_log2_cols a) in
      let r = (code_log (min_log2_tiles a - c.value) (max_log2_rows a)).used s c.next e in
      on _ _ ((code_log (min_log2_cols a) (max_log2_cols a)).used s p (sym r.error ∙ e)) r

  logs_read : (c r : ℕ) → InLog (min_log2_cols a) (max_log2_cols a) c → InLog (min_log2_tiles a - c) (max_log2_rows a) r → StandsAt s (position s p) (logs_code (uniform_info a c r))
      → ReadAs s p (uniform_info a c r) (logs_code (uniform_info a c r)) (uniform_layout s p a)
  unfolding uniform_layout uniform_info logs_code then
  logs_read c r g h st =
      let x = log_code (min_log2_cols a) (max_log2_cols a) c in
      let y = log_code (min_log2_tiles a - c) (max_log2_rows a) r in
      let u = (code_log (min_log2_cols a) (max_log2_cols a)).reads s p c g (split x y st).0 in
      let w = (code_log (min_log2_tiles a - c) (max_log2_rows a)).reads s (read_log2 s p (min_log2_cols a) (max_log2_cols a)).next r h (behind y u.1 st) in
      rw (u.0, w.0) (record { accepted = refl; gives = refl; just = on x y u.1 w.1 })

-- ---- behind the flag: the sizes

filled : {whole limit : ℕ} {zs : List ℕ} → Sized 64 whole limit zs → whole ≤ sum zs → Fills 64 whole limit zs
filled z h = record { few = z.few; adds = omega (arith, z.inside); each = z.each }

module _ (old : TileInfo) (a : TileArgs) (w h : List ℕ) where
  col_sizes_lem : sum w ≡ sbw a → col_sizes (non_uniform_info a old w h) ≡ w
  unfolding non_uniform_info
  col_sizes_lem e =
      tabulated _ 0 w (λ k l.
      let q : 0 + k ≡ k = omega arith in
      rw q (omega (arith, gap w (sbw a) e k l)))

  row_sizes_lem : sum h ≡ sbh a → row_sizes (non_uniform_info a old w h) ≡ h
  unfolding non_uniform_info
  row_sizes_lem e =
      tabulated _ 0 h (λ k l.
      let q : 0 + k ≡ k = omega arith in
      rw q (omega (arith, gap h (sbh a) e k l)))

  -- the bits of the record are the bits of the sizes
  pub sides_are : sum w ≡ sbw a → sum h ≡ sbh a → layout_bits a (non_uniform_info a old w h) ≡ 0 ∷ sides_code a w h
  unfolding layout_bits non_uniform_info
  sides_are e f = rw (col_sizes_lem e, row_sizes_lem f)

module _ (s : List ℕ) (p : Place) (old : TileInfo) (a : TileArgs) (d : InDomain a) where
  abbrev cols : Sizes
  cols = read_cols s p a

  abbrev rows : Sizes
  rows = read_rows s cols a

  cols_sized : Sized 64 (sbw a) (width_limit a) cols.sizes
  unfolding read_cols
  cols_sized = sizes_read 64 s _ (sbw a) (width_limit a) (omega (arith, (limits a d).some))

  some_row : (w : ℕ) → 1 ≤ row_limit a w
  unfolding row_limit
  some_row w = omega arith

  rows_sized : Sized 64 (sbh a) (row_limit a (widest cols.sizes)) rows.sizes
  unfolding read_rows
  rows_sized = sizes_read 64 s _ (sbh a) _ (some_row _)

  sides_used : rows.next.error ≡ false → Used s p rows.next (sides_code a cols.sizes rows.sizes)
  unfolding read_cols read_rows sides_code
  sides_used e =
      let r = sizes_used 64 s cols.next (sbh a) (row_limit a (widest cols.sizes)) (some_row _) (omega (arith, (down a d).most_all)) e in
      on _ _ (sizes_used 64 s p (sbw a) (width_limit a) (omega (arith, (limits a d).some)) (omega (arith, (across a d).most_all)) (sym r.error ∙ e)) r

  sides_read : (w h : List ℕ) → Fills 64 (sbw a) (width_limit a) w → Fills 64 (sbh a) (row_limit a (widest w)) h → StandsAt s (position s p) (sides_code a w h)
      → ReadAs s p (non_uniform_info a old w h) (sides_code a w h) (non_uniform_layout s p old a)
  unfolding non_uniform_layout read_cols read_rows sides_code then
  sides_read w h f g st =
      let x = sizes_code (sbw a) (width_limit a) w in
      let y = sizes_code (sbh a) (row_limit a (widest w)) h in
      let u = sizes_reads 64 s p (sbw a) (width_limit a) w (omega (arith, (across a d).most_all)) f (split x y st).0 in
      let v = sizes_reads 64 s cols.next (sbh a) (row_limit a (widest w)) h (omega (arith, (down a d).most_all)) g (behind y u.1 st) in
      rw (u.0, le-ltb (sum w) (sbw a) (omega (arith, f.adds)), v.0, le-ltb (sum h) (sbh a) (omega (arith, g.adds)))
      (record { accepted = refl; gives = refl; just = on x y u.1 v.1 })

-- ---- with the flag

pub logs_are : (a : TileArgs) (c r : ℕ) → layout_bits a (uniform_info a c r) ≡ 1 ∷ logs_code (uniform_info a c r)
unfolding layout_bits uniform_info
logs_are a c r = refl

module _ (s : List ℕ) (p : Place) (old : TileInfo) (a : TileArgs) where
  abbrev flag : Read ℕ
  flag = get_bit s p

  flagged : {b : ℕ} {q : Place} (rest : List ℕ) → flag.value ≡ b → q.error ≡ false → Used s flag.next q rest → Used s p q (b ∷ rest)
  flagged {b} rest e clean u = on (b ∷ []) rest (rw e at (code_bit.used s p (sym u.error ∙ clean))) u

  abbrev Fine : TileRead → Type 0
  Fine r = Clean r → Readable old a r.info × Used s p r.next (layout_bits a r.info)

  logs_fine : flag.value ≡ 1 → Fine (uniform_layout s flag.next a)
  unfolding layout_bits uniform_layout uniform_info then
  logs_fine e c = (logs_known s flag.next a old, flagged _ e c.unset (logs_used s flag.next a c.unset))

  module _ (d : InDomain a) where
    sides_fine : flag.value ≡ 0 → Fine (non_uniform_layout s flag.next old a)
    unfolding non_uniform_layout then
    sides_fine e =
        let n = flag.next in
        let c = read_cols s n a in
        let r = read_rows s c a in
        picked Fine (ltb (sum c.sizes) (sbw a)) _ _
        (λ _ no. absurd (subst T no.accepted tt))
        (λ f.
        picked Fine (ltb (sum r.sizes) (sbh a)) _ _
        (λ _ no. absurd (subst T no.accepted tt))
        (λ g ok.
        let w = filled (cols_sized s n old a d) (ltb-false (sum c.sizes) (sbw a) f) in
        let h = filled (rows_sized s n old a d) (ltb-false (sum r.sizes) (sbh a) g) in (
          sized c.sizes r.sizes w h refl,
          rw (sides_are old a c.sizes r.sizes w.adds h.adds) (flagged _ e ok.unset (sides_used s n old a d ok.unset)),
        )))

    parse_fine : Fine (pick (eqb flag.value 1) (uniform_layout s flag.next a) (non_uniform_layout s flag.next old a))
    parse_fine =
        picked Fine (eqb flag.value 1) _ _ (λ e. logs_fine (eqb-true _ _ e)) (λ e. sides_fine (omega (arith, bit_lt s p, eqb-false flag.value 1 e)))

    -- the flag, and what stands behind it
    module _ (b : ℕ) (rest : List ℕ) (b< : b < 2) (st : StandsAt s (position s p) (b ∷ rest)) where
      flag_read : (flag.value ≡ b) × Used s p flag.next (b ∷ [])
      flag_read = code_bit.reads s p b b< (split (b ∷ []) rest st).0

      after : {t : TileInfo} {r : TileRead} → (StandsAt s (position s flag.next) rest → ReadAs s flag.next t rest r) → ReadAs s p t (b ∷ rest) r
      after f =
          let r = f (behind rest flag_read.1 st) in
          record { accepted = r.accepted; gives = r.gives; just = on (b ∷ []) rest flag_read.1 r.just }

    parse_read : (t : TileInfo) → Readable old a t → StandsAt s (position s p) (layout_bits a t)
        → ReadAs s p t (layout_bits a t) (pick (eqb flag.value 1) (uniform_layout s flag.next a) (non_uniform_layout s flag.next old a))
    parse_read t (even c r g h q) st =
        let l = ap (layout_bits a) q ∙ logs_are a c r in
        let f = (flag_read 1 _ (omega arith) (rw l at st)).0 in
        rw (l, q, eq-eqb flag.value 1 f) (after 1 _ (omega arith) (rw l at st) (logs_read s flag.next a c r g h))
    parse_read t (sized w h f g q) st =
        let l = ap (layout_bits a) q ∙ sides_are old a w h f.adds g.adds in
        let b = (flag_read 0 _ (omega arith) (rw l at st)).0 in
        rw (l, q, ne_eqb flag.value 1 (omega arith)) (after 0 _ (omega arith) (rw l at st) (sides_read s flag.next old a d w h f g))

pub layout_code : LayoutCode
unfolding parse_tile_info get_flag then
layout_code =
    record {
      used = λ s p old a.
          picked (Fine s p old a) (in_domain a) _ _ (λ e. parse_fine s p old a (domain a e)) (λ _ no. absurd (subst T no.accepted tt));
      reads = λ s p old a t e k st. rw e (parse_read s p old a (domain a e) t k st);
    }
