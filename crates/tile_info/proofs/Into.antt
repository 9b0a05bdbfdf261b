-- A layout that goes into lent buffers. Assumes nothing.
use mathlib.Core.Bool.{Bool, true, false}
use mathlib.Core.List.{List, ◌∷◌, [], ◌++◌}
use mathlib.Core.Path.{◌≡◌, refl, sym, ◌∙◌, ap, subst}
use Prim.Native.Nat.{ℕ, ◌≤◌}
use native.Mathlib.Omega.{arith}
use borrow.Author.Tests.{le-leb}
use lib.ListN.{length, take, drop, length-append, take-append-drop}
use lib.Seq.{drop-append_seam}
use Rattle.answers.specs.Numbers.{is_refusal}
use Rattle.answers.specs.declared.Answer.TheVariants.{Accepted, InvalidTileInfo}
use Rattle.getbits.specs.declared.Place.{Place}
use Rattle.getbits.proofs.Chain.{contrary, taken, left}
use Rattle.lent.proofs.Calls.{pair}
use Rattle.tile_layout.specs.declared.TileArgs.{TileArgs}
use Rattle.tile_layout.specs.declared.TileInfo.{TileInfo}
use Rattle.tile_layout.specs.declared.TileRead.{TileRead}
use Rattle.tile_layout.specs.Cleared.{ReadOver}
use Rattle.tile_layout.specs.Demand3.{Demand3}
use Rattle.tile_layout.specs.Limits.{in_domain}
use Rattle.tile_layout.specs.Layout as layout
use Rattle.tile_layout.specs.Layout.{starts_from, non_uniform_edges, padded, invalid_tile_info, parse_tile_info}
use Rattle.tile_layout.proofs.Cleared.{read_over_lem}
use Rattle.tile_layout.proofs.Demand3.{demand_3}
use Rattle.tile_layout.proofs.Laws.{padded_length}
use Rattle.tile_layout.proofs.Sized.{length_starts}
use Rattle.flat.specs.Layout.{over_front, Buffers, buffers, has_room, put_layout, starts_in, layout_in}
use Rattle.flat.proofs.Room.{room, three, came_back}
use Rattle.tile_info.specs.declared.TileOutcome.{TileOutcome}
use Rattle.tile_info.specs.declared.nonuniform.Tiles.{Tiles}
use Rattle.tile_info.specs.Inner.{TilesOf, SizedInto}
use Rattle.tile_info.specs.Into.{read_into, parse_tile_info_into, layout_left}

-- over the front of a buffer that has room
pub in_front : (xs out : List ℕ) {ys : List ℕ} → 65 ≤ length out → ys ≡ xs ++ drop 65 out → ys ≡ over_front 65 xs out
in_front xs out h e = e ∙ sym (taken _ _ _ (le-leb 65 (length out) h))

-- what stands behind the first 65 starts stays
pub behind_stays : {z : layout.Sizes} {total : ℕ} (r : Tiles) {rest xs : List ℕ} → TilesOf z total r rest xs → drop 65 xs ≡ rest
behind_stays {z} {total} r {rest} w =
    let edges = non_uniform_edges z.sizes total in
    let few : length edges ≤ 65 = omega (arith, w.few, w.counted, length-append (starts_from 0 z.sizes) (total ∷ []), length_starts z.sizes 0) in
    ap (drop 65) w.stored ∙ ap (λ (n : ℕ). drop n (padded edges ++ rest)) (sym (padded_length edges few)) ∙ drop-append_seam (padded edges) rest

module _ (z : TileRead) (b : Buffers) (r : TileOutcome) (after : Buffers)
    (cols : drop 65 after.col_starts ≡ drop 65 b.col_starts) (rows : drop 65 after.row_starts ≡ drop 65 b.row_starts) where
  pub refused-into : (old : TileInfo) (next : Place) → invalid_tile_info old next ≡ z → r ≡ record { answer = InvalidTileInfo; next = next }
      → after.bytes ≡ b.bytes → SizedInto z b r after
  refused-into old next e er same =
      let refused = sym (ap (λ (t : TileRead). is_refusal t.answer) e) in
      record {
        answers = er ∙ ap (λ (t : TileRead). record { answer = t.answer; next = t.next }) e;
        accepted = λ h. contrary refused h;
        same_bytes = λ _. same;
        same_cols = cols;
        same_rows = rows;
      }

  pub accepted-into : (t : TileInfo) (next : Place) → record { answer = Accepted; info = t; next = next } ≡ z → r ≡ record { answer = Accepted; next = next }
      → after ≡ put_layout t b → SizedInto z b r after
  accepted-into t next e er put =
      let accepted = sym (ap (λ (t : TileRead). is_refusal t.answer) e) in
      record {
        answers = er ∙ ap (λ (t : TileRead). record { answer = t.answer; next = t.next }) e;
        accepted = λ _. put ∙ ap (λ (t : TileRead). put_layout t.info b) e;
        same_bytes = λ h. contrary h accepted;
        same_cols = cols;
        same_rows = rows;
      }

module _ (z : TileRead) (b : Buffers) {r : TileOutcome} {after : Buffers} (w : SizedInto z b r after) where
  pub all_kept : is_refusal z.answer ≡ false → (r, after) ≡ read_into z b
  all_kept h = pair w.answers (w.accepted h ∙ sym (left _ _ _ h))

  -- the starts are put back
  put_back : (xs now : List ℕ) {ys : List ℕ} → 65 ≤ length xs → length now ≡ length xs → drop 65 now ≡ drop 65 xs → ys ≡ over_front 65 (starts_in xs) now → ys ≡ xs
  put_back xs now h same rest e =
      e
      ∙ taken _ _ _ (le-leb 65 (length now) (omega (arith, same)))
      ∙ ap (λ (l : List ℕ). l ++ drop 65 now) (taken _ _ _ (le-leb 65 (length xs) h))
      ∙ ap (λ (l : List ℕ). take 65 xs ++ l) rest
      ∙ take-append-drop 65 xs

  pub restored : is_refusal z.answer ≡ true → has_room b ≡ true
      → length after.col_starts ≡ length b.col_starts → length after.row_starts ≡ length b.row_starts
      → {x y : List ℕ} → x ≡ over_front 65 (starts_in b.col_starts) after.col_starts → y ≡ over_front 65 (starts_in b.row_starts) after.row_starts
      → (r, buffers after.bytes x y) ≡ read_into z b
  restored h has long high ex ey =
      let room = room b has in
      pair w.answers
      (three (w.same_bytes h) (put_back b.col_starts after.col_starts room.cols long w.same_cols ex)
      (put_back b.row_starts after.row_starts room.rows high w.same_rows ey)
      ∙ sym (taken _ _ _ h))

-- what a call leaves, in buffers that keep their lengths
module _ (s : List ℕ) (p : Place) (b : Buffers) (a : TileArgs) {r : TileOutcome} {after : Buffers} (e : (r, after) ≡ parse_tile_info_into s p b a)
    (cols : length after.col_starts ≡ length b.col_starts) (rows : length after.row_starts ≡ length b.row_starts) where
  abbrev z : TileRead
  z = parse_tile_info s p (layout_in b) a

  read : has_room b ≡ true → layout_left r after ≡ z
  unfolding parse_tile_info_into
  read has = rw (ap (λ (x : TileOutcome × Buffers). x.0) put, info (is_refusal z.answer) refl) refl
    where
      put : (r, after) ≡ read_into z b
      put = e ∙ taken _ _ _ has

      info : (t : Bool) → is_refusal z.answer ≡ t → layout_in after ≡ z.info
      info true h = ap layout_in (ap (λ (x : TileOutcome × Buffers). x.1) put ∙ taken _ _ _ h) ∙ sym ((read_over_lem s p (layout_in b) a).kept h)
      info false h = came_back z.info b after has (ap (λ (x : TileOutcome × Buffers). x.1) put ∙ left _ _ _ h) cols rows

  over : (t : Bool) → has_room b ≡ t → ReadOver (layout_in b) (layout_left r after)
  unfolding parse_tile_info_into
  over true has = subst (ReadOver (layout_in b)) (sym (read has)) (read_over_lem s p (layout_in b) a)
  over false lacks =
      let short = e ∙ left _ _ _ lacks in
      subst (λ (x : TileOutcome × Buffers). ReadOver (layout_in b) (layout_left x.0 x.1)) (sym short) (record { cleared = λ h. contrary refl h; kept = λ _. refl })

  pub what-is-left : ((r, after) ≡ parse_tile_info_into s p b a)
      × ((has_room b ≡ true → layout_left r after ≡ z)
      × ((has_room b ≡ true → in_domain a ≡ true → Demand3 s p a (layout_left r after)) × ReadOver (layout_in b) (layout_left r after)))
  what-is-left = (e, (read, (λ has d. subst (Demand3 s p a) (sym (read has)) (demand_3 s p (layout_in b) a d), over (has_room b) refl)))

-- a layout that went into buffers and comes back from them
pub whole_read : (s : List ℕ) (p : Place) (old : TileInfo) (a : TileArgs) (b : Buffers) → layout_in b ≡ old → {a' : TileArgs} {r : TileOutcome} {t i : TileInfo}
    → record { answer = r.answer; info = t; next = r.next } ≡ parse_tile_info s p (layout_in b) a' → a' ≡ a → i ≡ t → record { answer = r.answer; info = i; next = r.next } ≡ parse_tile_info s p old a
whole_read s p old a b holds {r = r} e same is =
    ap (λ (t : TileInfo). record { answer = r.answer; info = t; next = r.next }) is ∙ e ∙ rw (holds, same) refl

-- and what is promised of it
pub promised : (s : List ℕ) (p : Place) (old : TileInfo) (a : TileArgs) {r : TileRead} → r ≡ parse_tile_info s p old a
    → (r ≡ parse_tile_info s p old a) × ((in_domain a ≡ true → Demand3 s p a r) × ReadOver old r)
promised s p old a e = (e, rw e (demand_3 s p old a, read_over_lem s p old a))
