-- What is promised of a reading within a limit follows from its definition. Assumes nothing.
use mathlib.Core.Path.{◌≡◌, refl, sym, ap, subst}
use mathlib.Core.Logic.{◌⊎◌, inl, inr, ⊎_elim}
use mathlib.Core.Bool.{Bool, true, false, not, ◌&&◌, ◌||◌}
use mathlib.Core.List.{List}
use Prim.Native.Nat.{ℕ, ◌≤◌}
use native.Mathlib.Omega.{arith}
use borrow.Author.Tests.{ltb-true, ltb-false}
use lib.Dec.{ltb}
use Rattle.answers.specs.Numbers.{is_refusal}
use Rattle.answers.specs.declared.Answer.TheVariants.{TooManyTiles}
use Rattle.getbits.specs.Chain.{pick}
use Rattle.getbits.specs.declared.Place.{Place}
use Rattle.getbits.proofs.Chain.{contrary, picked, left}
use Rattle.tile_layout.specs.Demand3.{AcceptedLayout}
use Rattle.tile_layout.specs.Layout.{parse_tile_info}
use Rattle.tile_layout.specs.Cleared.{ReadOver}
use Rattle.tile_layout.proofs.Demand3.{all_accepted}
use Rattle.tile_layout.proofs.Cleared.{refused_over, read_over_lem}
use Rattle.tile_layout.specs.declared.TileArgs.{TileArgs}
use Rattle.tile_layout.specs.declared.TileInfo.{TileInfo}
use Rattle.tile_layout.specs.declared.TileRead.{TileRead}
use Rattle.frame_layout.specs.Frame.{parse_tile_info_frmhdr, frame_tiles}
use Rattle.frame_layout.specs.declared.FrameHeader.{FrameHeader}
use Rattle.frame_layout.specs.declared.FrameRead.{FrameRead}
use Rattle.frame_layout.specs.declared.SeqLayout.{SeqLayout}
use Rattle.frame_layout.proofs.Cleared.{frame_over}
use Rattle.tile_limit.specs.Promises.{Over, Limited, LimitedTiles, FreshAccepted, LimitedFrame}
use Rattle.tile_limit.specs.Within.{wall, is_too_many, tiles_within, frame_within, parse_tile_info_within, parse_tile_info_frmhdr_within}
use Rattle.tile_limit.specs.declared.TileLimit.{TileLimit}
use Rattle.tile_limit.proofs.OnWall.{OnWall, tiles_on_wall, frame_accepted, frame_on_wall}

-- the three tests, where they say too many and where they don't
some : (r a b : Bool) → not r && (a || b) ≡ true → (r ≡ false) × ((a ≡ true) ⊎ (b ≡ true))
some false true b h = (refl, inl refl)
some false false true h = (refl, inr refl)
some false false false h = contrary h refl
some true a b h = contrary h refl

neither : (r a b : Bool) → not r && (a || b) ≡ false → r ≡ false → (a ≡ false) × (b ≡ false)
neither false true b h k = contrary refl h
neither false false true h k = contrary refl h
neither false false false h k = (refl, refl)
neither true a b h k = contrary refl k

module _ (m : TileLimit) (w : TileRead) where
  abbrev cols-over : Bool
  cols-over = ltb m.cols w.info.cols

  abbrev rows-over : Bool
  rows-over = ltb m.rows w.info.rows

  accepted_too_many : is_too_many m w ≡ true → (is_refusal w.answer ≡ false) × Over m w.info
  accepted_too_many e =
      let h = some (is_refusal w.answer) cols-over rows-over e in
      (h.0, ⊎_elim (λ k. inl (ltb-true m.cols w.info.cols k)) (λ k. inr (ltb-true m.rows w.info.rows k)) h.1)

  not_too_many : is_too_many m w ≡ false → is_refusal w.answer ≡ false → (w.info.cols ≤ m.cols) × (w.info.rows ≤ m.rows)
  not_too_many e r =
      let h = neither (is_refusal w.answer) cols-over rows-over e r in
      (ltb-false m.cols w.info.cols h.0, ltb-false m.rows w.info.rows h.1)

  -- the wall never has more than the wall's limit
  never_on_wall : OnWall w → m ≡ wall → is_refusal w.answer ≡ false → Over m w.info → ⊥
  never_on_wall o e r over =
      ⊎_elim (λ k. omega (arith, k, o.few_cols r, ap (λ (x : TileLimit). x.cols) e)) (λ k. omega (arith, k, o.few_rows r, ap (λ (x : TileLimit). x.rows) e)) over

  none_on_wall : OnWall w → m ≡ wall → is_too_many m w ≡ false
  none_on_wall o e = by (is_too_many m w) refl
    where
      by : (t : Bool) → is_too_many m w ≡ t → is_too_many m w ≡ false
      by false t = t
      by true t = let h = accepted_too_many t in absurd (never_on_wall o e h.0 h.1)

  limited : (old : TileInfo) → OnWall w → Limited m w (tiles_within m old w)
  unfolding tiles_within
  limited old o =
      picked (Limited m w) (is_too_many m w) _ _
      (λ t.
      let h = accepted_too_many t in
      record {
        few_cols = λ r. contrary refl r;
        few_rows = λ r. contrary refl r;
        six = λ _ _. refl;
        six_accepted = λ _. h.0;
        six_over = λ _. h.1;
        wall_never_6 = λ e _. never_on_wall o e h.0 h.1;
      })
      (λ t.
      record {
        few_cols = λ r. (not_too_many t r).0;
        few_rows = λ r. (not_too_many t r).1;
        six = λ r over.
            let h = not_too_many t r in
            absurd (⊎_elim (λ k. omega (arith, k, h.0)) (λ k. omega (arith, k, h.1)) over);
        six_accepted = λ n. absurd (o.never_6 n);
        six_over = λ n. absurd (o.never_6 n);
        wall_never_6 = λ _ n. o.never_6 n;
      })

-- what is accepted within the limit was accepted on the wall, and is the same
pub within_accepted : (P : TileInfo → Type 0) (m : TileLimit) (old : TileInfo) (w : TileRead) → (is_refusal w.answer ≡ false → P w.info)
    → is_refusal (tiles_within m old w).answer ≡ false → P (tiles_within m old w).info
unfolding tiles_within
within_accepted P m old w f =
    picked (λ (z : TileRead). is_refusal z.answer ≡ false → P z.info) (is_too_many m w) _ _ (λ _ r. contrary refl r) (λ _. f)

-- 6 hands back the record given
within_over : (m : TileLimit) (old : TileInfo) (w : TileRead) → ReadOver old w → ReadOver old (tiles_within m old w)
unfolding tiles_within
within_over m old w o = picked (ReadOver old) (is_too_many m w) _ _ (λ _. refused_over _ refl refl) (λ _. o)

-- a frame's layout within the limit
tiles_of : (m : TileLimit) (h : FrameHeader) (z : FrameRead) → frame_tiles (frame_within m h z) ≡ tiles_within m h.tiling (frame_tiles z)
unfolding tiles_within frame_within
tiles_of m h z = by (is_too_many m (frame_tiles z))
  where
    by : (t : Bool) → frame_tiles (pick t (record { answer = TooManyTiles; hdr = h; next = z.next }) z) ≡ pick t (record { answer = TooManyTiles; info = h.tiling; next = z.next }) (frame_tiles z)
    by true = refl
    by false = refl

-- what is promised of the two operations
pub limited_tiles : (s : List ℕ) (p : Place) (old : TileInfo) (a : TileArgs) (m : TileLimit) → LimitedTiles s p old a m (parse_tile_info_within s p old a m)
unfolding tiles_within
limited_tiles s p old a m =
    let w = parse_tile_info s p old a in
    let o = tiles_on_wall s p old a in
    record {
      limited = limited m w old o;
      accepted = within_accepted (AcceptedLayout s p a) m old w (all_accepted s p old a);
      over = within_over m old w (read_over_lem s p old a);
      as_on_wall = λ e. left _ _ _ (none_on_wall m w o e);
    }

pub limited_frame : (s : List ℕ) (p : Place) (h : FrameHeader) (q : SeqLayout) (m : TileLimit) → LimitedFrame s p h q m (parse_tile_info_frmhdr_within s p h q m)
unfolding frame_within
limited_frame s p h q m =
    let z = parse_tile_info_frmhdr s p h q in
    let o = frame_on_wall s p h q in
    let same = sym (tiles_of m h z) in
    record {
      limited = subst (Limited m (frame_tiles z)) same (limited m (frame_tiles z) h.tiling o);
      accepted = subst (λ (x : TileRead). is_refusal x.answer ≡ false → FreshAccepted s p h q x.info) same
          (within_accepted (FreshAccepted s p h q) m h.tiling (frame_tiles z) (frame_accepted s p h q));
      over = subst (ReadOver h.tiling) same (within_over m h.tiling (frame_tiles z) (frame_over s p h q));
      as_on_wall = λ e. left _ _ _ (none_on_wall m (frame_tiles z) o e);
    }
