-- What is read where only so many columns and rows can be shown: request #101.
use Rattle.std.specs.Prelude.{Bool, not, ◌&&◌, ◌||◌, List, ℕ, ltb}
use Rattle.answers.specs.Numbers.{is_refusal}
use Rattle.answers.specs.declared.Answer.TheVariants.{TooManyTiles}
use Rattle.getbits.specs.Chain.{pick}
use Rattle.getbits.specs.declared.Place.{Place}
use Rattle.tile_layout.specs.Layout.{parse_tile_info}
use Rattle.tile_layout.specs.declared.TileArgs.{TileArgs}
use Rattle.tile_layout.specs.declared.TileInfo.{TileInfo}
use Rattle.tile_layout.specs.declared.TileRead.{TileRead}
use Rattle.frame_layout.specs.Frame.{frame_tiles, parse_tile_info_frmhdr}
use Rattle.frame_layout.specs.declared.FrameHeader.{FrameHeader}
use Rattle.frame_layout.specs.declared.FrameRead.{FrameRead}
use Rattle.frame_layout.specs.declared.SeqLayout.{SeqLayout}
use Rattle.tile_limit.specs.declared.TileLimit.{TileLimit}

-- the wall viewers show at most 64 columns and 64 rows
abbrev pub wall : TileLimit
wall = record { cols = 64; rows = 64 }

-- the handheld panel shows at most 16 columns and 8 rows
abbrev pub panel : TileLimit
panel = record { cols = 16; rows = 8 }

-- has a layout more columns or more rows than the limit?
abbrev pub is_over : TileLimit → TileInfo → Bool
is_over m t = ltb m.cols t.cols || ltb m.rows t.rows

-- is a reading accepted, with too many?
abbrev pub is_too_many : TileLimit → TileRead → Bool
is_too_many m z = not (is_refusal z.answer) && is_over m z.info

-- then it is 6, the record given comes back, and the reader is where the wall's reading z leaves it; all else is answered as on the wall
unfoldable pub tiles_within : TileLimit → TileInfo → TileRead → TileRead
tiles_within m old z = pick (is_too_many m z) (record { answer = TooManyTiles; info = old; next = z.next }) z

-- of a frame likewise, for a layout that is read and for one that is reused
unfoldable pub frame_within : TileLimit → FrameHeader → FrameRead → FrameRead
frame_within m h z = pick (is_too_many m (frame_tiles z)) (record { answer = TooManyTiles; hdr = h; next = z.next }) z

-- parse_tile_info_within: the wall's reading, within the limit
abbrev pub parse_tile_info_within : List ℕ → Place → TileInfo → TileArgs → TileLimit → TileRead
parse_tile_info_within s p old a m = tiles_within m old (parse_tile_info s p old a)

-- parse_tile_info_frmhdr_within likewise
abbrev pub parse_tile_info_frmhdr_within : List ℕ → Place → FrameHeader → SeqLayout → TileLimit → FrameRead
parse_tile_info_frmhdr_within s p h q m = frame_within m h (parse_tile_info_frmhdr s p h q)
