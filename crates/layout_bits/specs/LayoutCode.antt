-- A layout and its bits belong together.
use Rattle.std.specs.Prelude.{◌≡◌, true, false, List, ℕ}
use Rattle.answers.specs.Numbers.{is_refusal}
use Rattle.getbits.specs.Bits.{position}
use Rattle.getbits.specs.declared.Place.{Place}
use Rattle.tile_layout.specs.declared.TileArgs.{TileArgs}
use Rattle.tile_layout.specs.declared.TileInfo.{TileInfo}
use Rattle.tile_layout.specs.declared.TileRead.{TileRead}
use Rattle.tile_layout.specs.Limits.{in_domain}
use Rattle.tile_layout.specs.Layout.{parse_tile_info}
use Rattle.layout_bits.specs.Rows.{StandsAt, Used}
use Rattle.layout_bits.specs.Bits.{layout_bits}
use Rattle.layout_bits.specs.Readable.{Readable}

-- accepted, and no error is set
pub record Clean (r : TileRead) : Type 0 where
  pub accepted : is_refusal r.answer ≡ false
  pub unset : r.next.error ≡ false

-- a reading from place p that is accepted, gives t and used just these bits
pub record ReadAs (s : List ℕ) (p : Place) (t : TileInfo) (bits : List ℕ) (r : TileRead) : Type 0 where
  pub accepted : is_refusal r.answer ≡ false
  pub gives : r.info ≡ t
  pub just : Used s p r.next bits

-- the two laws of a layout's bits, over any record `old`
pub record LayoutCode : Type 0 where
  -- a reading that is accepted without error gives a record that can be read, and used its bits
  pub used : (s : List ℕ) (p : Place) (old : TileInfo) (a : TileArgs) → Clean (parse_tile_info s p old a)
      → Readable old a (parse_tile_info s p old a).info × Used s p (parse_tile_info s p old a).next (layout_bits a (parse_tile_info s p old a).info)
  -- where the bits of a record that can be read stand, it is read
  pub reads : (s : List ℕ) (p : Place) (old : TileInfo) (a : TileArgs) (t : TileInfo) → in_domain a ≡ true → Readable old a t
      → StandsAt s (position s p) (layout_bits a t) → ReadAs s p t (layout_bits a t) (parse_tile_info s p old a)
