-- What the limited readings need of the wall's. Assumes nothing.
use mathlib.Core.Path.{◌≡◌, refl, ◌∙◌, ap}
use mathlib.Core.Bool.{Bool, true, false}
use mathlib.Core.List.{List}
use Prim.Native.Nat.{ℕ, ◌≤◌, ◌<◌}
use native.Mathlib.Omega.{arith}
use lib.Dec.{lit<, ltb}
use Rattle.answers.specs.Numbers.{number_of, is_refusal}
use Rattle.getbits.specs.Bits.{get_flag}
use Rattle.getbits.specs.Chain.{then}
use Rattle.getbits.specs.declared.Place.{Place}
use Rattle.getbits.proofs.Chain.{contrary, picked, taken, left, through}
use Rattle.tile_layout.specs.Demand3.{AcceptedLayout}
use Rattle.tile_layout.specs.Layout.{sum, read_cols, read_rows, uniform_layout, non_uniform_layout, parse_tile_info}
use Rattle.tile_layout.specs.Limits.{in_domain, sbw, sbh}
use Rattle.tile_layout.specs.declared.TileArgs.{TileArgs}
use Rattle.tile_layout.specs.declared.TileInfo.{TileInfo}
use Rattle.tile_layout.specs.declared.TileRead.{TileRead}
use Rattle.tile_layout.proofs.Demand3.{all_accepted}
use Rattle.frame_layout.specs.Frame.{in_frame_domain, read_reuse, reuse_allowed, ask_reuse, reused_info, frame_args, fresh_layout, parse_tile_info_frmhdr, frame_tiles}
use Rattle.frame_layout.specs.declared.FrameHeader.{FrameHeader}
use Rattle.frame_layout.specs.declared.FrameRead.{FrameRead}
use Rattle.frame_layout.specs.declared.SeqLayout.{SeqLayout}
use Rattle.frame_layout.proofs.Fresh.{fresh_demand_3}
use Rattle.frame_layout.proofs.Usable.{Tiled, usable_tiles_lem, frame_usable, allowed_only, reused_tiled}
use Rattle.tile_limit.specs.Promises.{FreshAccepted}

-- the wall accepts at most 64 columns and 64 rows, and never answers 6
pub record OnWall (w : TileRead) : Type 0 where
  pub few_cols : is_refusal w.answer ≡ false → w.info.cols ≤ 64
  pub few_rows : is_refusal w.answer ≡ false → w.info.rows ≤ 64
  pub never_6 : number_of w.answer ≡ 6 → ⊥

abbrev Not6 : TileRead → Type 0
Not6 z = number_of z.answer ≡ 6 → ⊥

-- the numbers that it does answer are others
other : (n : ℕ) → n < 6 → n ≡ 6 → ⊥
other n l e = omega arith

sizes_not_6 : (s : List ℕ) (p : Place) (old : TileInfo) (a : TileArgs) → Not6 (non_uniform_layout s p old a)
unfolding non_uniform_layout then
sizes_not_6 s p old a =
    let c = read_cols s p a in
    picked Not6 (ltb (sum c.sizes) (sbw a)) _ _ (λ _. other 2 (lit< tt))
    (λ _. picked Not6 (ltb (sum (read_rows s c a).sizes) (sbh a)) _ _ (λ _. other 2 (lit< tt)) (λ _. other 0 (lit< tt)))

tiles_not_6 : (s : List ℕ) (p : Place) (old : TileInfo) (a : TileArgs) → Not6 (parse_tile_info s p old a)
unfolding parse_tile_info uniform_layout then
tiles_not_6 s p old a =
    picked Not6 (in_domain a) _ _
    (λ _. picked Not6 (get_flag s p).value _ _ (λ _. other 0 (lit< tt)) (λ _. sizes_not_6 s (get_flag s p).next old a))
    (λ _. other 4 (lit< tt))

pub tiles_on_wall : (s : List ℕ) (p : Place) (old : TileInfo) (a : TileArgs) → OnWall (parse_tile_info s p old a)
tiles_on_wall s p old a =
    record {
      few_cols = λ e. (all_accepted s p old a e).most_cols;
      few_rows = λ e. (all_accepted s p old a e).most_rows;
      never_6 = tiles_not_6 s p old a;
    }

module _ (s : List ℕ) (p : Place) (h : FrameHeader) (q : SeqLayout) where
  -- the wall's reading of a frame
  abbrev read : FrameRead
  read = parse_tile_info_frmhdr s p h q

  -- outside the domain it is refused
  outside : in_frame_domain h q ≡ false → is_refusal read.answer ≡ true
  unfolding parse_tile_info_frmhdr
  outside d = ap (λ (z : FrameRead). is_refusal z.answer) (left _ _ _ d)

  pub frame_accepted : is_refusal read.answer ≡ false → FreshAccepted s p h q read.hdr.tiling
  frame_accepted e f = by (in_frame_domain h q) refl
    where
      by : (d : Bool) → in_frame_domain h q ≡ d → AcceptedLayout s (read_reuse s p (frame_args h q) q).next (frame_args h q) read.hdr.tiling
      by true d = (fresh_demand_3 s p h q d f).accepted e
      by false d = contrary (outside d) e

  -- a layout that is reused is the sequence's, which is usable
  tiled : in_frame_domain h q ≡ true → (read_reuse s p (frame_args h q) q).value ≡ true → Tiled q.t
  unfolding read_reuse
  tiled d v = reused_tiled (frame_args h q) q (frame_usable h q d) (allowed_only (reuse_allowed (frame_args h q) q) s p (ask_reuse q.present s p) v)

  reused_cols : in_frame_domain h q ≡ true → (read_reuse s p (frame_args h q) q).value ≡ true → read.hdr.tiling.cols ≡ q.t.cols
  unfolding parse_tile_info_frmhdr reused_info
  reused_cols d v = ap (λ (z : FrameRead). z.hdr.tiling.cols) (taken _ _ _ d ∙ through _ _ refl ∙ through _ _ refl ∙ taken _ _ _ v)

  reused_rows : in_frame_domain h q ≡ true → (read_reuse s p (frame_args h q) q).value ≡ true → read.hdr.tiling.rows ≡ q.t.rows
  unfolding parse_tile_info_frmhdr reused_info
  reused_rows d v = ap (λ (z : FrameRead). z.hdr.tiling.rows) (taken _ _ _ d ∙ through _ _ refl ∙ through _ _ refl ∙ taken _ _ _ v)

  few : is_refusal read.answer ≡ false → (read.hdr.tiling.cols ≤ 64) × (read.hdr.tiling.rows ≤ 64)
  few e = by (in_frame_domain h q) (read_reuse s p (frame_args h q) q).value refl refl
    where
      by : (d v : Bool) → in_frame_domain h q ≡ d → (read_reuse s p (frame_args h q) q).value ≡ v → (read.hdr.tiling.cols ≤ 64) × (read.hdr.tiling.rows ≤ 64)
      by false v d w = contrary (outside d) e
      by true false d w = let t = frame_accepted e w in (t.most_cols, t.most_rows)
      by true true d w =
          let t = tiled d w in
          let cols = usable_tiles_lem _ _ _ t.cols in
          let rows = usable_tiles_lem _ _ _ t.rows in
          (omega (arith, reused_cols d w, cols.few), omega (arith, reused_rows d w, rows.few))

  frame_not_6 : Not6 (frame_tiles read)
  unfolding parse_tile_info_frmhdr fresh_layout then
  frame_not_6 =
      picked (λ (z : FrameRead). Not6 (frame_tiles z)) (in_frame_domain h q) _ _
      (λ _. picked (λ (z : FrameRead). Not6 (frame_tiles z)) (read_reuse s p (frame_args h q) q).value _ _ (λ _. other 0 (lit< tt)) (λ _. tiles_not_6 s (read_reuse s p (frame_args h q) q).next h.tiling (frame_args h q)))
      (λ _. other 4 (lit< tt))

  pub frame_on_wall : OnWall (frame_tiles read)
  frame_on_wall = record { few_cols = λ e. (few e).0; few_rows = λ e. (few e).1; never_6 = frame_not_6 }
