-- A frame's layout that goes into lent buffers. Assumes nothing.
use mathlib.Core.Bool.{Bool, true, false, ◌&&◌}
use mathlib.Core.List.{List}
use mathlib.Core.Path.{◌≡◌, refl, sym, ◌∙◌, ap, subst}
use Prim.Native.Nat.{ℕ}
use lib.Dec.{eqb}
use lib.IntN.{ℤ}
use lib.ListN.{length, get_or, take}
use Rattle.answers.specs.Numbers.{is_refusal}
use Rattle.getbits.specs.Chain.{pick, then}
use Rattle.getbits.specs.declared.Place.{Place}
use Rattle.getbits.proofs.Chain.{contrary, taken, left, both, picked}
use Rattle.lent.specs.Lent.{is_set}
use Rattle.lent.proofs.Calls.{pair}
use Rattle.tile_layout.specs.Layout.{parse_tile_info}
use Rattle.tile_layout.specs.Limits.{unsigned, superblocks, sbw, sbh}
use Rattle.tile_layout.specs.declared.TileArgs.{TileArgs}
use Rattle.tile_layout.specs.declared.TileInfo.{TileInfo}
use Rattle.tile_layout.specs.declared.TileRead.{TileRead}
use Rattle.superblocks.specs.Counts.{fits_uniform}
use Rattle.flat.specs.Layout.{Buffers, has_room, put_layout, layout_in}
use Rattle.flat.proofs.Room.{came_back}
use Rattle.frame_layout.specs.Frame.{is_off, in_frame_domain, frame_args, same_counts, reuse_allowed, read_reuse, with_layout, fresh_layout, parse_tile_info_frmhdr, FrameLayout}
use Rattle.frame_hdr.specs.Into.{frame_in, seq_in, frame_into, parse_tile_info_frmhdr_into, frame_layout_left}
use Rattle.frame_layout.specs.declared.FrameHeader.{FrameHeader}
use Rattle.frame_hdr.specs.declared.FrameOutcome.{FrameOutcome}
use Rattle.frame_layout.specs.declared.FrameRead.{FrameRead}
use Rattle.frame_layout.specs.declared.SeqLayout.{SeqLayout}
use Rattle.frame_layout.proofs.Cleared.{frame_over, frame_promised}

-- the layout in buffers that have room
abbrev pub Held : Buffers → TileInfo
Held b =
    record {
      uniform = is_set (get_or b.bytes 0 0);
      min_log2_cols = get_or b.bytes 1 0;
      max_log2_cols = get_or b.bytes 2 0;
      log2_cols = get_or b.bytes 3 0;
      cols = get_or b.bytes 4 0;
      min_log2_rows = get_or b.bytes 5 0;
      max_log2_rows = get_or b.bytes 6 0;
      log2_rows = get_or b.bytes 7 0;
      rows = get_or b.bytes 8 0;
      col_start_sb = take 65 b.col_starts;
      row_start_sb = take 65 b.row_starts;
    }

pub held : (b : Buffers) → has_room b ≡ true → layout_in b ≡ Held b
unfolding layout_in
held b h = taken _ _ _ h

-- the question whether a layout in buffers may be reused
pub allowed_in : (a : TileArgs) (q : SeqLayout) (b : Buffers) → has_room b ≡ true → q.t ≡ layout_in b → a.seq_code ≡ q.sb128
    → pick (is_off q.present) false (pick (is_set (get_or b.bytes 0 0)) (fits_uniform (get_or b.bytes 3 0) (sbw a) && fits_uniform (get_or b.bytes 7 0) (sbh a))
    (eqb (superblocks (unsigned q.max_width) a.seq_code) (sbw a) && eqb (superblocks (unsigned q.max_height) a.seq_code) (sbh a))) ≡ reuse_allowed a q
unfolding reuse_allowed same_counts
allowed_in a q b h e f = rw (e, held b h, f) refl

-- a layout read fresh
module _ (s : List ℕ) (p : Place) (h : FrameHeader) (a : TileArgs) (b : Buffers) (holds : h.tiling ≡ layout_in b) where
  abbrev framed : TileRead → FrameRead
  framed z =
      record { answer = z.answer; hdr = pick (is_refusal z.answer) h (with_layout h a.frame_code z.info); next = z.next }

  abbrev read : TileRead
  read = parse_tile_info s p (layout_in b) a

  meant : fresh_layout s p h a ≡ framed read
  unfolding fresh_layout then
  meant = ap (λ (t : TileInfo). framed (parse_tile_info s p t a)) holds

  abbrev Fresh : FrameOutcome → Buffers → Bool → Type 0
  Fresh o after refused =
      (o ≡ record { answer = read.answer; sb128 = pick refused h.sb128 a.frame_code; next = read.next })
      × (after ≡ pick refused b (put_layout read.info b))

  pub fresh_into : (o : FrameOutcome) (after : Buffers) → Fresh o after (is_refusal read.answer) → (o, after) ≡ frame_into (fresh_layout s p h a) b
  fresh_into o after e = by (is_refusal read.answer) refl e ∙ ap (λ (z : FrameRead). frame_into z b) (sym meant)
    where
      by : (t : Bool) → is_refusal read.answer ≡ t → Fresh o after t → (o, after) ≡ frame_into (framed read) b
      by true r e = rw r (pair e.0 e.1)
      by false r e = rw r (pair e.0 e.1)

-- the answer has the frame's type and size
abbrev Same : FrameHeader → FrameHeader → Type 0
Same h x = with_layout h x.sb128 x.tiling ≡ x

same_frame : (s : List ℕ) (p : Place) (h : FrameHeader) (q : SeqLayout) → Same h (parse_tile_info_frmhdr s p h q).hdr
unfolding parse_tile_info_frmhdr fresh_layout then
same_frame s p h q =
    let a = frame_args h q in
    let f = read_reuse s p a q in
    picked (λ (r : FrameRead). Same h r.hdr) (in_frame_domain h q) _ _
    (λ _. picked (λ (r : FrameRead). Same h r.hdr) f.value _ _
    (λ _. refl)
    (λ _. picked (Same h) (is_refusal (parse_tile_info s f.next h.tiling a).answer) _ _ (λ _. refl) (λ _. refl)))
    (λ _. refl)

-- a refusal hands back the frame given
abbrev Kept : FrameHeader → FrameRead → Type 0
Kept h r = is_refusal r.answer ≡ true → r.hdr ≡ h

pub refused_frame : (s : List ℕ) (p : Place) (h : FrameHeader) (q : SeqLayout) → Kept h (parse_tile_info_frmhdr s p h q)
unfolding parse_tile_info_frmhdr fresh_layout then
refused_frame s p h q =
    picked (Kept h) (in_frame_domain h q) _ _
    (λ _. picked (Kept h) (read_reuse s p (frame_args h q) q).value _ _ (λ _ r. contrary r refl) (λ _ r. taken _ _ _ r))
    (λ _ _. refl)

-- what a call leaves, in buffers that keep their lengths
module _ (s : List ℕ) (p : Place) (b seq : Buffers) (h : FrameHeader) (q : SeqLayout) (holds : h.tiling ≡ layout_in b) {r : FrameOutcome} {after : Buffers}
    (e : (r, after) ≡ parse_tile_info_frmhdr_into s p b seq h q)
    (cols : length after.col_starts ≡ length b.col_starts) (rows : length after.row_starts ≡ length b.row_starts) where
  abbrev z : FrameRead
  z = parse_tile_info_frmhdr s p h q

  left-frame : has_room b && has_room seq ≡ true → frame_layout_left h r after ≡ z
  unfolding parse_tile_info_frmhdr_into
  left-frame has =
      rw (ap (λ (x : FrameOutcome × Buffers). x.0) put, info (is_refusal z.answer) refl)
      (ap (λ (x : FrameHeader). record { answer = z.answer; hdr = x; next = z.next }) (same_frame s p h q))
    where
      put : (r, after) ≡ frame_into z b
      put = e ∙ taken _ _ _ has

      info : (t : Bool) → is_refusal z.answer ≡ t → layout_in after ≡ z.hdr.tiling
      info true f = ap layout_in (ap (λ (x : FrameOutcome × Buffers). x.1) put ∙ taken _ _ _ f) ∙ sym holds ∙ sym ((frame_over s p h q).kept f)
      info false f = came_back z.hdr.tiling b after (both _ _ has).0 (ap (λ (x : FrameOutcome × Buffers). x.1) put ∙ left _ _ _ f) cols rows

  pub what-is-left : ((r, after) ≡ parse_tile_info_frmhdr_into s p b seq h q)
      × ((has_room b && has_room seq ≡ true → frame_layout_left h r after ≡ z) × (has_room b && has_room seq ≡ true → FrameLayout s p h q (frame_layout_left h r after)))
  what-is-left = (e, (left-frame, λ has. subst (FrameLayout s p h q) (sym (left-frame has)) (frame_promised s p h q)))

-- a frame whose layout went into buffers and comes back from them
module _ (s : List ℕ) (p : Place) (h : FrameHeader) (q : SeqLayout) (b seq : Buffers) (holds : layout_in b ≡ h.tiling) (held : layout_in seq ≡ q.t) where
  abbrev own : ℤ → ℤ → FrameHeader
  own width height = frame_in h.frame_type width height h.sb128 b

  abbrev theirs : ℤ → ℤ → SeqLayout
  theirs width height = seq_in q.sb128 width height q.level q.tier q.present seq

  same : parse_tile_info_frmhdr s p (own h.width h.height) (theirs q.max_width q.max_height) ≡ parse_tile_info_frmhdr s p h q
  same =
      ap (λ (t : TileInfo). parse_tile_info_frmhdr s p (with_layout h h.sb128 t) (theirs q.max_width q.max_height)) holds
      ∙ ap (λ (t : TileInfo). parse_tile_info_frmhdr s p h (record { sb128 = q.sb128; max_width = q.max_width; max_height = q.max_height; level = q.level; tier = q.tier; present = q.present; t = t })) held

  pub whole_frame : {width height widest highest : ℤ} {r : FrameOutcome} {t i : TileInfo} {x : FrameHeader}
      → record { answer = r.answer; hdr = record { frame_type = h.frame_type; width = width; height = height; sb128 = r.sb128; tiling = t }; next = r.next }
      ≡ parse_tile_info_frmhdr s p (own width height) (theirs widest highest)
      → width ≡ h.width → height ≡ h.height → widest ≡ q.max_width → highest ≡ q.max_height
      → i ≡ t → x ≡ with_layout h r.sb128 i
      → let z : FrameRead = record { answer = r.answer; hdr = x; next = r.next } in (z ≡ parse_tile_info_frmhdr s p h q) × FrameLayout s p h q z
  whole_frame {r = r} into w e m n back with_it =
      let z = ap (λ (x : FrameHeader). record { answer = r.answer; hdr = x; next = r.next }) (with_it ∙ ap (with_layout h r.sb128) back) ∙ rw (w, e, m, n) at into ∙ same in
      (z, subst (FrameLayout s p h q) (sym z) (frame_promised s p h q))
