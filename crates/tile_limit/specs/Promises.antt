-- What is promised of a reading within a limit, whatever the limit m, the bytes s, the place p and the records given.
use Rattle.std.specs.Prelude.{◌≡◌, false, ◌⊎◌, List, ℕ, ◌≤◌, ◌<◌}
use Rattle.answers.specs.Numbers.{number_of, is_refusal}
use Rattle.getbits.specs.declared.Place.{Place}
use Rattle.tile_layout.specs.Demand3.{AcceptedLayout}
use Rattle.tile_layout.specs.Cleared.{ReadOver}
use Rattle.tile_layout.specs.Layout.{parse_tile_info}
use Rattle.tile_layout.specs.declared.TileArgs.{TileArgs}
use Rattle.tile_layout.specs.declared.TileInfo.{TileInfo}
use Rattle.tile_layout.specs.declared.TileRead.{TileRead}
use Rattle.frame_layout.specs.Frame.{read_reuse, frame_args, frame_tiles, parse_tile_info_frmhdr}
use Rattle.frame_layout.specs.declared.FrameHeader.{FrameHeader}
use Rattle.frame_layout.specs.declared.FrameRead.{FrameRead}
use Rattle.frame_layout.specs.declared.SeqLayout.{SeqLayout}
use Rattle.tile_limit.specs.Within.{wall}
use Rattle.tile_limit.specs.declared.TileLimit.{TileLimit}

-- a layout has more columns or more rows than the limit
abbrev pub Over : TileLimit → TileInfo → Type 0
Over m t = (m.cols < t.cols) ⊎ (m.rows < t.rows)

-- the wall answers w, and within the limit the answer is z
pub record Limited (m : TileLimit) (w z : TileRead) : Type 0 where
  -- an accepted layout, read fresh or reused, has no more columns and no more rows than the limit
  pub few_cols : is_refusal z.answer ≡ false → z.info.cols ≤ m.cols
  pub few_rows : is_refusal z.answer ≡ false → z.info.rows ≤ m.rows
  -- 6 is answered exactly when the wall accepts and there are too many
  pub six : is_refusal w.answer ≡ false → Over m w.info → number_of z.answer ≡ 6
  pub six_accepted : number_of z.answer ≡ 6 → is_refusal w.answer ≡ false
  pub six_over : number_of z.answer ≡ 6 → Over m w.info
  -- so it never comes with the wall's limit
  pub wall_never_6 : m ≡ wall → number_of z.answer ≡ 6 → ⊥

-- what parse_tile_info_within answers
pub record LimitedTiles (s : List ℕ) (p : Place) (old : TileInfo) (a : TileArgs) (m : TileLimit) (z : TileRead) : Type 0 where
  pub limited : Limited m (parse_tile_info s p old a) z
  -- an accepted layout has all that demand 3 says of one
  pub accepted : is_refusal z.answer ≡ false → AcceptedLayout s p a z.info
  -- accepted, zeros stand behind the closing entries; refused, the record given comes back
  pub over : ReadOver old z
  -- with the wall's limit every answer is the wall's
  pub as_on_wall : m ≡ wall → z ≡ parse_tile_info s p old a

-- a frame's layout t has all that demand 3 says of an accepted one, if it is read fresh, from behind the question of reuse
abbrev pub FreshAccepted : List ℕ → Place → FrameHeader → SeqLayout → TileInfo → Type 0
FreshAccepted s p h q t =
    (read_reuse s p (frame_args h q) q).value ≡ false → AcceptedLayout s (read_reuse s p (frame_args h q) q).next (frame_args h q) t

-- what parse_tile_info_frmhdr_within answers
pub record LimitedFrame (s : List ℕ) (p : Place) (h : FrameHeader) (q : SeqLayout) (m : TileLimit) (z : FrameRead) : Type 0 where
  pub limited : Limited m (frame_tiles (parse_tile_info_frmhdr s p h q)) (frame_tiles z)
  -- an accepted layout that is read fresh has all that demand 3 says of one
  pub accepted : is_refusal z.answer ≡ false → FreshAccepted s p h q z.hdr.tiling
  -- accepted, read fresh or reused, zeros stand behind the closing entries; refused, the layout given comes back
  pub over : ReadOver h.tiling (frame_tiles z)
  -- with the wall's limit every answer is the wall's
  pub as_on_wall : m ≡ wall → z ≡ parse_tile_info_frmhdr s p h q
