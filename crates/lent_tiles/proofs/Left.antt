-- What a call leaves, put together from the facts of its steps. Assumes nothing.
use mathlib.Core.Bool.{Bool, true, false, ◌&&◌}
use mathlib.Core.List.{List, [], ◌∷◌}
use mathlib.Core.Path.{◌≡◌, refl, sym, ap, subst, ◌∙◌}
use Prim.Native.Nat.{ℕ}
use lib.ListN.{get_or}
use Rattle.answers.proofs.Numbers.{accepted_by_0, refused_unless_0}
use Rattle.answers.specs.Numbers.{number_of, is_refusal}
use Rattle.answers.specs.declared.Answer.{Answer}
use Rattle.answers.specs.declared.Answer.TheVariants.{Accepted, InvalidSequenceHeader, InvalidTileInfo, InvalidTrailingBits}
use Rattle.answers.specs.declared.Answer.TheVariants.{WrongArguments, ShortBuffer, TooManyTiles, InvalidFilmGrainData, NoSuchLayout}
use Rattle.getbits.specs.Chain.{pick, then}
use Rattle.getbits.proofs.Chain.{taken, left}
use Rattle.getbits.specs.declared.Place.{Place}
use Rattle.lent.proofs.Calls.{row, pair, triple}
use Rattle.lent.specs.Calls.{answered, too_short}
use Rattle.lent.specs.Lent.{place_of, lent_place}
use Rattle.tile_info.specs.Into.{parse_tile_info_into}
use Rattle.tile_info.specs.declared.TileOutcome.{TileOutcome}
use Rattle.tile_layout.specs.Cleared.{Cleared, ReadOver}
use Rattle.tile_layout.specs.Demand3.{Demand3, AcceptedLayout}
use Rattle.tile_layout.specs.declared.TileArgs.{TileArgs}
use Rattle.tile_layout.specs.declared.TileInfo.{TileInfo}
use Rattle.tile_layout.specs.declared.TileRead.{TileRead}
use Rattle.frame_layout.specs.Frame.{parse_tile_info_frmhdr}
use Rattle.frame_hdr.specs.Into.{frame_into, parse_tile_info_frmhdr_into}
use Rattle.frame_layout.specs.declared.FrameHeader.{FrameHeader}
use Rattle.frame_hdr.specs.declared.FrameOutcome.{FrameOutcome}
use Rattle.frame_layout.specs.declared.FrameRead.{FrameRead}
use Rattle.frame_layout.specs.declared.SeqLayout.{SeqLayout}
use Rattle.frame_hdr.proofs.Into.{refused_frame}
use Rattle.flat.specs.Layout.{Buffers, has_room, layout_in}
use Rattle.lent_tiles.specs.Calls.{handed_tiles, handed_frame, lent_tiles, lent_frames, lent_tile_info}
use Rattle.lent_tiles.specs.Left.{answer_of, tiles_left}

-- an answer comes back from its number
pub answer_back : (z : Answer) → answer_of (number_of z) ≡ z
answer_back Accepted = refl
answer_back InvalidSequenceHeader = refl
answer_back InvalidTileInfo = refl
answer_back InvalidTrailingBits = refl
answer_back WrongArguments = refl
answer_back ShortBuffer = refl
answer_back TooManyTiles = refl
answer_back InvalidFilmGrainData = refl
answer_back NoSuchLayout = refl

-- a buffer that is too short gives 5, and nothing that was lent changes
pub tiles_short : (read : Place → TileInfo → TileRead) (position error : ℕ) (b : Buffers) → has_room b ≡ false
    → ((5 ∷ position ∷ error ∷ []), b) ≡ lent_tiles read position error b
unfolding lent_tiles
tiles_short read position error b lacks = sym (left _ _ _ lacks)

pub frames_short : (read : Place → FrameRead) (s : List ℕ) (position error code : ℕ) (b seq : Buffers) (known : Bool) → has_room b && has_room seq ≡ false
    → ((5 ∷ position ∷ error ∷ []), code, b) ≡ lent_frames read s position error code b seq known
unfolding lent_frames
frames_short read s position error code b seq known lacks = sym (left _ _ _ lacks)

-- what a layout's answer leaves, handed back
module _ (r : TileRead) (error : ℕ) (b : Buffers) {n x y : ℕ} {b' : Buffers} (e : ((n ∷ x ∷ y ∷ []), b') ≡ handed_tiles r error b) where
  pub tiles_number : n ≡ number_of r.answer
  tiles_number = ap (λ (z : List ℕ × Buffers). get_or z.0 0 0) e

  pub tiles_kept : (n ≡ 0 → ⊥) → b' ≡ b
  tiles_kept h = ap (λ (z : List ℕ × Buffers). z.1) e ∙ taken _ _ _ (refused_unless_0 r.answer (λ k. h (tiles_number ∙ k)))

-- refused, the buffers are what they were
pub lent_kept : (read : Place → TileInfo → TileRead) (position error : ℕ) (b : Buffers) {n x y : ℕ} {b' : Buffers}
    → ((n ∷ x ∷ y ∷ []), b') ≡ lent_tiles read position error b → (n ≡ 0 → ⊥) → b' ≡ b
unfolding lent_tiles then
lent_kept read position error b {n} {x} {y} {b'} = by (has_room b)
  where
    by : (t : Bool) → ((n ∷ x ∷ y ∷ []), b') ≡ pick t (handed_tiles (read (place_of position error) (layout_in b)) error b) (too_short position error, b) → (n ≡ 0 → ⊥) → b' ≡ b
    by true e h = tiles_kept (read (place_of position error) (layout_in b)) error b e h
    by false e h = ap (λ (z : List ℕ × Buffers). z.1) e

-- a layout that was read into the buffers is handed back in them
module _ (s : List ℕ) (position error : ℕ) (a : TileArgs) (b : Buffers) (room : has_room b ≡ true) where
  abbrev handed : TileOutcome × Buffers → List ℕ × Buffers
  handed w = (answered w.0.answer w.0.next error, w.1)

  pub into_handed : {r : TileOutcome} {after : Buffers} → (r, after) ≡ parse_tile_info_into s (place_of position error) b a
      → {n x y : ℕ} → n ≡ number_of r.answer → (x ∷ y ∷ []) ≡ lent_place r.next error → ((n ∷ x ∷ y ∷ []), after) ≡ lent_tile_info s position error b a
  unfolding lent_tiles then parse_tile_info_into
  into_handed {r} e number place =
      pair (row r.answer r.next error number place) refl ∙ ap handed (e ∙ taken _ _ _ room) ∙ sym (taken _ _ _ room)

-- and a frame's
module _ (r : FrameRead) (error code : ℕ) (b : Buffers) {n x y code' : ℕ} {b' : Buffers} (e : ((n ∷ x ∷ y ∷ []), code', b') ≡ handed_frame r error code b) where
  pub frame_number : n ≡ number_of r.answer
  frame_number = ap (λ (z : List ℕ × ℕ × Buffers). get_or z.0 0 0) e

  refused : (n ≡ 0 → ⊥) → is_refusal r.answer ≡ true
  refused h = refused_unless_0 r.answer (λ k. h (frame_number ∙ k))

  pub code_kept : (n ≡ 0 → ⊥) → code' ≡ code
  code_kept h = ap (λ (z : List ℕ × ℕ × Buffers). z.1) e ∙ taken _ _ _ (refused h)

  pub frame_kept : (n ≡ 0 → ⊥) → b' ≡ b
  frame_kept h = ap (λ (z : List ℕ × ℕ × Buffers). z.2) e ∙ taken _ _ _ (refused h)

-- a frame's layout that was read into the buffers is handed back in them
module _ (s : List ℕ) (p : Place) (h : FrameHeader) (q : SeqLayout) (b seq : Buffers) {r : FrameOutcome} {after : Buffers}
    (room : has_room b && has_room seq ≡ true) (e : (r, after) ≡ parse_tile_info_frmhdr_into s p b seq h q) where
  frame-put : (r, after) ≡ frame_into (parse_tile_info_frmhdr s p h q) b
  unfolding parse_tile_info_frmhdr_into
  frame-put = e ∙ taken _ _ _ room

  code : (t : Bool) → is_refusal (parse_tile_info_frmhdr s p h q).answer ≡ t → (parse_tile_info_frmhdr s p h q).hdr.sb128 ≡ pick t h.sb128 (parse_tile_info_frmhdr s p h q).hdr.sb128
  code true f = ap (λ (x : FrameHeader). x.sb128) (refused_frame s p h q f)
  code false f = refl

  pub frame-into-handed : (error : ℕ) {n x y : ℕ} → n ≡ number_of r.answer → (x ∷ y ∷ []) ≡ lent_place r.next error
      → ((n ∷ x ∷ y ∷ []), r.sb128, after) ≡ handed_frame (parse_tile_info_frmhdr s p h q) error h.sb128 b
  frame-into-handed error number place =
      triple
      (row r.answer r.next error number place ∙ ap (λ (w : FrameOutcome × Buffers). answered w.0.answer w.0.next error) frame-put)
      (ap (λ (w : FrameOutcome × Buffers). w.0.sb128) frame-put ∙ code _ refl)
      (ap (λ (w : FrameOutcome × Buffers). w.1) frame-put)

-- what is left of a reading has its answer, and its layout where that is accepted
module _ (z : TileRead) (n : ℕ) (b : Buffers) (number : n ≡ number_of z.answer) (info : is_refusal z.answer ≡ false → layout_in b ≡ z.info) where
  pub left_answer : answer_of n ≡ z.answer
  left_answer = ap answer_of number ∙ answer_back z.answer

  pub left_accepted : is_refusal (answer_of n) ≡ false → is_refusal z.answer ≡ false
  left_accepted r = sym (ap is_refusal left_answer) ∙ r

  -- an accepted layout is left with zeros behind its closing entries
  pub cleared_left : {old : TileInfo} → ReadOver old z → n ≡ 0 → Cleared (layout_in b)
  cleared_left o e =
      let h = accepted_by_0 z.answer (sym number ∙ e) in
      subst Cleared (sym (info h)) (o.cleared h)

  -- demand 3 of a layout is demand 3 of what is left of it
  pub demand3_left : {s : List ℕ} {p p' : Place} {a : TileArgs} → Demand3 s p a z → Demand3 s p a (tiles_left n b p')
  demand3_left {s} {p} {p'} {a} d =
      record {
        uniform_never_refused = λ u. ap is_refusal left_answer ∙ d.uniform_never_refused u;
        refused_with_2 = λ u l. ap number_of left_answer ∙ d.refused_with_2 u l;
        refused_only_then = λ u r. d.refused_only_then u (sym (ap is_refusal left_answer) ∙ r);
        accepted = λ r.
            let h = left_accepted r in
            subst (AcceptedLayout s p a) (sym (info h)) (d.accepted h);
      }
