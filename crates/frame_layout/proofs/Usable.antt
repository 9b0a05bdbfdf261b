-- What follows from a frame's domain: the facts it states, and that a layout is read for arguments in the domain. Assumes nothing.
use mathlib.Core.Path.{◌≡◌, refl, sym, subst}
use mathlib.Core.Logic.{inl, inr, ⊎_elim}
use mathlib.Core.Bool.{Bool, true, false, ◌&&◌, ◌||◌}
use mathlib.Core.List.{List}
use Prim.Native.Nat.{ℕ, zero, suc, ◌+◌, ◌≤◌}
use native.Mathlib.Numerals.{add-one}
use native.Mathlib.Omega.{arith}
use borrow.Author.Tests.{leb-true}
use lib.Dec.{T, leb}
use lib.ListN.{get_or}
use Rattle.getbits.specs.Chain.{pick}
use Rattle.getbits.specs.declared.Read.{Read}
use Rattle.getbits.specs.declared.Place.{Place}
use Rattle.getbits.proofs.Chain.{both}
use Rattle.getbits.proofs.Places.{lt_or_le}
use Rattle.tile_layout.specs.Limits.{unsigned, is_size, in_domain}
use Rattle.tile_layout.specs.declared.TileArgs.{TileArgs}
use Rattle.tile_layout.specs.declared.TileInfo.{TileInfo}
use Rattle.tile_layout.proofs.Domain.{Pair, sized, in_domain_lem}
use Rattle.superblocks.specs.Counts.{multiplier_of}
use Rattle.frame_layout.specs.Frame.{starts_low, usable_tiles, is_off, usable, in_frame_domain, frame_code, frame_args, reuse_allowed, not_reused}
use Rattle.frame_layout.specs.declared.FrameType.{FrameType}
use Rattle.frame_layout.specs.declared.FrameType.TheVariants.{Key, Inter, Intra, Switch}
use Rattle.frame_layout.specs.declared.FrameHeader.{FrameHeader}
use Rattle.frame_layout.specs.declared.SeqLayout.{SeqLayout}

-- one more start
pub low_more : (starts : List ℕ) (n : ℕ) {low : Bool} {x : ℕ} → low ≡ starts_low starts n → x ≡ get_or starts (n + 1) 0 → low && leb x 1024 ≡ starts_low starts (n + 1)
unfolding starts_low
low_more starts n e f = rw (e, f, add-one n)

-- each start up to entry n is at most 1,024
pub start_low : (starts : List ℕ) (n i : ℕ) → starts_low starts n ≡ true → i ≤ n → get_or starts i 0 ≤ 1024
unfolding starts_low
start_low starts zero i h l = let e : i ≡ 0 = omega arith in rw e (leb-true (get_or starts 0 0) 1024 h)
start_low starts (suc n) i h l =
    let w = both (starts_low starts n) (leb (get_or starts (suc n) 0) 1024) h in
    ⊎_elim (λ k. start_low starts n i w.0 (omega arith))
    (λ k. let e : i ≡ suc n = omega arith in rw e (leb-true (get_or starts (suc n) 0) 1024 w.1))
    (lt_or_le i (suc n))

pub record UsableTiles (tiles log2 : ℕ) (starts : List ℕ) : Type 0 where
  pub few : tiles ≤ 64
  pub small : log2 ≤ 6
  pub low : starts_low starts tiles ≡ true

pub usable_tiles_lem : (tiles log2 : ℕ) (starts : List ℕ) → usable_tiles tiles log2 starts ≡ true → UsableTiles tiles log2 starts
unfolding usable_tiles
usable_tiles_lem tiles log2 starts e =
    let x = both (leb 1 tiles && leb tiles 64 && leb log2 6) (starts_low starts tiles) e in
    let y = both (leb 1 tiles && leb tiles 64) (leb log2 6) x.0 in
    record { few = leb-true tiles 64 (both (leb 1 tiles) (leb tiles 64) y.0).1; small = leb-true log2 6 y.1; low = x.1 }

-- a layout that may be reused
pub record Tiled (t : TileInfo) : Type 0 where
  pub cols : usable_tiles t.cols t.log2_cols t.col_start_sb ≡ true
  pub rows : usable_tiles t.rows t.log2_rows t.row_start_sb ≡ true

pub record Usable (q : SeqLayout) : Type 0 where
  pub code : q.sb128 ≤ 2
  pub level : q.level ≤ 31
  pub tier : q.tier ≤ 1
  pub tiled : is_off q.present ≡ false → Tiled q.t

pub known : (q : SeqLayout) → usable q ≡ true → Usable q
unfolding usable
known q e =
    let u = usable_tiles q.t.cols q.t.log2_cols q.t.col_start_sb in
    let v = usable_tiles q.t.rows q.t.log2_rows q.t.row_start_sb in
    let a = both _ (is_off q.present || (u && v)) e in
    let b = both _ (leb q.tier 1) a.0 in
    let c = both _ (leb q.level 31) b.0 in
    let d = both _ (is_size (unsigned q.max_height)) c.0 in
    let f = both (leb q.sb128 2) (is_size (unsigned q.max_width)) d.0 in
    record {
      code = leb-true q.sb128 2 f.0;
      level = leb-true q.level 31 c.1;
      tier = leb-true q.tier 1 b.1;
      tiled = λ o. let w = both u v (rw o at a.1) in record { cols = w.0; rows = w.1 };
    }

-- reuse is allowed only where tiling is not Off
pub reused_tiled : (a : TileArgs) (q : SeqLayout) → usable q ≡ true → reuse_allowed a q ≡ true → Tiled q.t
unfolding reuse_allowed
reused_tiled a q u e = by (is_off q.present) refl
  where
    by : (o : Bool) → is_off q.present ≡ o → Tiled q.t
    by false o = (known q u).tiled o
    by true o = absurd (subst T (sym (rw o at e)) tt)

-- the pair and the multiplier are always legal
pair : (f : FrameType) (q : ℕ) → q ≤ 2 → Pair (frame_code f q) q (multiplier_of (frame_code f q) q)
unfolding frame_code multiplier_of
pair Key zero h = inl (omega arith, refl, refl)
pair Key (suc zero) h = inl (omega arith, refl, refl)
pair Key (suc (suc zero)) h = inr (refl, refl, refl)
pair Intra zero h = inl (omega arith, refl, refl)
pair Intra (suc zero) h = inl (omega arith, refl, refl)
pair Intra (suc (suc zero)) h = inr (refl, refl, refl)
pair Inter zero h = inl (omega arith, refl, refl)
pair Inter (suc zero) h = inl (omega arith, refl, refl)
pair Inter (suc (suc zero)) h = inl (omega arith, refl, refl)
pair Switch zero h = inl (omega arith, refl, refl)
pair Switch (suc zero) h = inl (omega arith, refl, refl)
pair Switch (suc (suc zero)) h = inl (omega arith, refl, refl)
pair f (suc (suc (suc q))) h = absurd (omega arith)

module _ (h : FrameHeader) (q : SeqLayout) (e : in_frame_domain h q ≡ true) where
  pub frame_usable : usable q ≡ true
  unfolding in_frame_domain
  frame_usable = (both (is_size (unsigned h.width) && is_size (unsigned h.height)) (usable q) e).1

  -- a layout is read for arguments in the domain
  pub frame_in_domain : in_domain (frame_args h q) ≡ true
  unfolding in_frame_domain
  frame_in_domain =
      let s = both (is_size (unsigned h.width)) (is_size (unsigned h.height)) (both (is_size (unsigned h.width) && is_size (unsigned h.height)) (usable q) e).0 in
      let w = sized (unsigned h.width) s.0 in
      let v = sized (unsigned h.height) s.1 in
      let u = known q frame_usable in
      in_domain_lem (frame_args h q)
      (record {
        some_width = w.0;
        most_width = w.1;
        some_height = v.0;
        most_height = v.1;
        most_level = u.level;
        most_tier = u.tier;
        pair = pair h.frame_type q.sb128 u.code;
      })

-- a layout is reused only where it is allowed
pub allowed_only : (allowed : Bool) (s : List ℕ) (p : Place) (asked : Read Bool) → (pick allowed asked (not_reused s p)).value ≡ true → allowed ≡ true
allowed_only true s p asked e = refl
allowed_only false s p asked e = absurd (subst T (sym e) tt)
