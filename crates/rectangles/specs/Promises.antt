-- What tile_rectangles promises of its answer, and of the buffer after it: requests #104 and #105.
use Rattle.std.specs.Prelude.{false, List, ◌≡◌, ℕ, ◌*◌, ◌<◌, take, drop}
use Rattle.answers.specs.Numbers.{number_of, is_refusal}
use Rattle.answers.specs.declared.Answer.{Answer}
use Rattle.getbits.specs.declared.Place.{Place}
use Rattle.tile_layout.specs.Layout.{parse_tile_info}
use Rattle.tile_layout.specs.declared.TileArgs.{TileArgs}
use Rattle.tile_layout.specs.declared.TileInfo.{TileInfo}
use Rattle.rectangles.specs.Rectangles.{rectangle}
use Rattle.rectangles.specs.Places.{place}
use Rattle.rectangles.specs.Covering.{Covering}

-- t was read fresh for a frame of this code, width and height: parse_tile_info, of some bytes and over some record, accepted it for them
pub record ReadFresh (t : TileInfo) (code w h : ℕ) : Type 0 where
  pub bytes : List ℕ
  pub start : Place
  pub old : TileInfo
  pub args : TileArgs
  pub accepted : is_refusal (parse_tile_info bytes start old args).answer ≡ false
  pub gives : (parse_tile_info bytes start old args).info ≡ t
  pub coded : args.frame_code ≡ code
  pub wide : args.width ≡ w
  pub high : args.height ≡ h

pub record TilesWritten (t : TileInfo) (code w h : ℕ) (r : Answer) (after : List ℕ) : Type 0 where
  -- accepted, the rectangle of each tile stands at its place
  pub stands : is_refusal r ≡ false → (col row : ℕ) → col < t.cols → row < t.rows → take 4 (drop (4 * place t col row) after) ≡ rectangle t code w h col row
  -- those of a layout read fresh cover the picture
  pub covering : ReadFresh t code w h → Covering t code w h
  -- and it is never refused with 4
  pub never_4 : ReadFresh t code w h → number_of r ≡ 4 → ⊥
