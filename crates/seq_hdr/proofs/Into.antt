-- A header and its layout that go into lent buffers. Assumes nothing.
use mathlib.Core.Path.{◌≡◌, refl, ap, sym, subst, ◌∙◌}
use mathlib.Core.Bool.{Bool, true, false}
use mathlib.Core.List.{List, ◌++◌}
use Prim.Native.Nat.{ℕ}
use native.Mathlib.Omega.{arith}
use lib.IntN.{ℤ}
use lib.ListN.{length, drop, length-append, length-drop}
use lib.Seq.{drop-append_seam}
use Rattle.answers.specs.Numbers.{is_refusal}
use Rattle.answers.specs.declared.Answer.{Answer}
use Rattle.getbits.specs.Chain.{pick}
use Rattle.getbits.proofs.Chain.{contrary, through, taken, left}
use Rattle.getbits.specs.declared.Place.{Place}
use Rattle.seq_fields.specs.declared.AdaptiveBoolean.{AdaptiveBoolean}
use Rattle.tile_layout.specs.Limits.{no_tile_info}
use Rattle.tile_layout.specs.declared.TileInfo.{TileInfo}
use Rattle.tile_layout.specs.declared.TileRead.{TileRead}
use Rattle.flat.specs.Layout.{Buffers, buffers, over_front, has_room, layout_bytes, put_layout}
use Rattle.flat.proofs.Room.{room, three, put_room}
use Rattle.tile_info.specs.Into.{read_into}
use Rattle.tile_info.specs.declared.TileOutcome.{TileOutcome}
use Rattle.seq_record.specs.declared.SequenceHeader.{SequenceHeader}
use Rattle.seq_hdr.specs.declared.SeqRead.{SeqRead}
use Rattle.seq_hdr.specs.Tiling.{TilingRead}
use Rattle.seq_hdr.specs.Header.{refused_header, read_head, parse_seq_hdr}
use Rattle.seq_hdr.specs.Into.{HeadPut, TilingInto, read_rest}
use Rattle.seq_hdr.proofs.Refused.{Refused, head_refused}

-- a layout that was put into buffers that keep their lengths: there is room still, and another one goes over it
module _ (u : TileInfo) (b b' : Buffers) (h : has_room b ≡ true) (e : b' ≡ put_layout u b)
    (cols : length b'.col_starts ≡ length b.col_starts) (rows : length b'.row_starts ≡ length b.row_starts) where
  put : b' ≡ buffers (layout_bytes u ++ drop 9 b.bytes) (u.col_start_sb ++ drop 65 b.col_starts) (u.row_start_sb ++ drop 65 b.row_starts)
  unfolding put_layout
  put = e ∙ taken _ _ _ h

  col-count : length u.col_start_sb ≡ 65
  col-count =
      omega (arith, length-append u.col_start_sb (drop 65 b.col_starts), ap (λ (x : Buffers). length x.col_starts) put, cols, (room b h).cols, length-drop 65 b.col_starts)

  row_count : length u.row_start_sb ≡ 65
  row_count =
      omega (arith, length-append u.row_start_sb (drop 65 b.row_starts), ap (λ (x : Buffers). length x.row_starts) put, rows, (room b h).rows, length-drop 65 b.row_starts)

  pub room-still : has_room b' ≡ true
  room-still = ap has_room e ∙ put_room u b col-count row_count h

  behind : (xs ys : List ℕ) → length xs ≡ 65 → drop 65 (xs ++ ys) ≡ ys
  behind xs ys n = ap (λ (k : ℕ). drop k (xs ++ ys)) (sym n) ∙ drop-append_seam xs ys

  pub goes_over : (t : TileInfo) → put_layout t b' ≡ put_layout t b
  unfolding put_layout
  goes_over t =
      taken _ _ _ room-still
      ∙ three
      (ap (λ (x : Buffers). layout_bytes t ++ drop 9 x.bytes) put ∙ ap (λ (l : List ℕ). layout_bytes t ++ l) (drop-append_seam (layout_bytes u) (drop 9 b.bytes)))
      (ap (λ (x : Buffers). t.col_start_sb ++ drop 65 x.col_starts) put ∙ ap (λ (l : List ℕ). t.col_start_sb ++ l) (behind u.col_start_sb (drop 65 b.col_starts) col-count))
      (ap (λ (x : Buffers). t.row_start_sb ++ drop 65 x.row_starts) put ∙ ap (λ (l : List ℕ). t.row_start_sb ++ l) (behind u.row_start_sb (drop 65 b.row_starts) row_count))
      ∙ sym (taken _ _ _ h)

-- a tiling whose layout z went into the buffers
module _ (z : TileRead) (b : Buffers) (h : has_room b ≡ true) {o : TileOutcome} {after : Buffers} (e : (o, after) ≡ read_into z b)
    (cols : length after.col_starts ≡ length b.col_starts) (rows : length after.row_starts ≡ length b.row_starts) where
  outcome : o ≡ record { answer = z.answer; next = z.next }
  outcome = ap (λ (x : TileOutcome × Buffers). x.0) e

  left_in : after ≡ pick (is_refusal z.answer) b (put_layout z.info b)
  left_in = ap (λ (x : TileOutcome × Buffers). x.1) e

  stays : (t : Bool) → is_refusal z.answer ≡ t → put_layout no_tile_info after ≡ put_layout no_tile_info b
  stays true r = ap (put_layout no_tile_info) (left_in ∙ taken _ _ _ r)
  stays false r = goes_over z.info b after h (left_in ∙ left _ _ _ r) cols rows no_tile_info

  pub tiling-into : {w : TilingRead} {present meant : AdaptiveBoolean} → present ≡ meant
      → w ≡ record { answer = z.answer; value = record { present = meant; t = z.info }; next = z.next }
      → TilingInto w b (record { answer = o.answer; present = present; next = o.next }) after
  tiling-into f g = record { is = rw (g, f, outcome) refl; put = rw (g, outcome) left_in; behind = stays (is_refusal z.answer) refl }

-- a refused header is refused
refused : (answer : Answer) (p : Place) {r : SeqRead} → is_refusal answer ≡ true → r ≡ refused_header answer p → is_refusal r.answer ≡ true
unfolding refused_header
refused answer p h e = rw e h

-- what was put before the refusal does not count
pub head_not_put : {before after : List ℤ} (answer : Answer) (p : Place) {r : SeqRead} → is_refusal answer ≡ true → r ≡ refused_header answer p
    → ((xs : List ℤ) → over_front 146 xs after ≡ over_front 146 xs before) → HeadPut before r after
head_not_put answer p h e b = record { stands = λ k. contrary (refused answer p h e) k; behind = b }

-- what stands behind the head x
abbrev pub rest_of : Bool → List ℕ → SeqRead → SeqRead
rest_of strict s x = read_rest strict x.hdr.blocks.partition.sb128 x.hdr.picture.size x.hdr.level x.hdr s x.next

-- a refused head is the header, the zero record with its answer and its place; an accepted one goes on with the rest
module _ (s : List ℕ) (p : Place) (strict : Bool) {x : SeqRead} (e : x ≡ read_head s p) where
  pub head_ends : is_refusal x.answer ≡ true → parse_seq_hdr s p strict ≡ x
  unfolding parse_seq_hdr
  head_ends h = through _ _ e ∙ taken _ _ _ h

  pub as_refused : is_refusal x.answer ≡ true → x ≡ refused_header x.answer x.next
  unfolding refused_header
  as_refused h =
      let r : Refused x = subst Refused (sym e) (head_refused s p) in
      ap (λ (hdr : SequenceHeader). record { answer = x.answer; hdr = hdr; next = x.next }) (r.zero h)

  pub head_goes_on : is_refusal x.answer ≡ false → parse_seq_hdr s p strict ≡ rest_of strict s x
  unfolding parse_seq_hdr
  head_goes_on h = through _ _ e ∙ left _ _ _ h
