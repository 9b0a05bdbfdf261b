-- What a limited call leaves. Assumes nothing.
use mathlib.Core.Bool.{Bool, false, ◌&&◌}
use mathlib.Core.List.{List}
use mathlib.Core.Path.{◌≡◌, sym, ap, subst, ◌∙◌}
use Prim.Native.Nat.{ℕ, ◌≤◌}
use Rattle.answers.specs.Numbers.{number_of, is_refusal}
use Rattle.answers.specs.declared.Answer.TheVariants.{WrongArguments}
use Rattle.getbits.specs.Bits.{settled}
use Rattle.getbits.specs.Chain.{pick, then}
use Rattle.getbits.specs.declared.Place.{Place}
use Rattle.lent.specs.Lent.{place_of}
use Rattle.tile_layout.specs.declared.TileInfo.{TileInfo}
use Rattle.tile_layout.specs.declared.TileRead.{TileRead}
use Rattle.frame_layout.specs.declared.FrameRead.{FrameRead}
use Rattle.flat.specs.Layout.{Buffers, has_room, layout_in}
use Rattle.lent.specs.Calls.{answered, too_short}
use Rattle.lent_tiles.specs.Calls.{handed_tiles, handed_frame, lent_tiles, lent_frames}
use Rattle.lent_tiles.specs.Left.{tiles_left}
use Rattle.lent_tiles.proofs.Left.{left_answer, left_accepted}
use Rattle.tile_limit.specs.Promises.{Limited}
use Rattle.tile_limit.specs.declared.TileLimit.{TileLimit}

-- what is promised of a reading is promised of what is left of it
pub limited_left : (z : TileRead) (n : ℕ) (b : Buffers) (number : n ≡ number_of z.answer) (info : is_refusal z.answer ≡ false → layout_in b ≡ z.info)
    {m : TileLimit} {w : TileRead} {p : Place} → Limited m w z → Limited m w (tiles_left n b p)
limited_left z n b number info {m} l =
    let six = ap number_of (left_answer z n b number info) in
    record {
      few_cols = λ r.
          let h = left_accepted z n b number info r in
          subst (λ (t : TileInfo). t.cols ≤ m.cols) (sym (info h)) (l.few_cols h);
      few_rows = λ r.
          let h = left_accepted z n b number info r in
          subst (λ (t : TileInfo). t.rows ≤ m.rows) (sym (info h)) (l.few_rows h);
      six = λ r over. six ∙ l.six r over;
      six_accepted = λ k. l.six_accepted (sym six ∙ k);
      six_over = λ k. l.six_over (sym six ∙ k);
      wall_never_6 = λ e k. l.wall_never_6 e (sym six ∙ k);
    }

-- two readings that answer alike leave the same
pub tiles_alike : (read read' : Place → TileInfo → TileRead) (position error : ℕ) (b : Buffers)
    → read (place_of position error) (layout_in b) ≡ read' (place_of position error) (layout_in b) → lent_tiles read position error b ≡ lent_tiles read' position error b
unfolding lent_tiles then
tiles_alike read read' position error b e = ap (λ (r : TileRead). pick (has_room b) (handed_tiles r error b) (too_short position error, b)) e

pub frames_alike : (read read' : Place → FrameRead) (s : List ℕ) (position error code : ℕ) (b seq : Buffers) (known : Bool)
    → read (place_of position error) ≡ read' (place_of position error) → lent_frames read s position error code b seq known ≡ lent_frames read' s position error code b seq known
unfolding lent_frames then
frames_alike read read' s position error code b seq known e =
    ap (λ (r : FrameRead). pick (has_room b && has_room seq)
    (pick known (handed_frame r error code b) (answered WrongArguments (settled s (place_of position error)) error, code, b))
    (too_short position error, code, b)) e
