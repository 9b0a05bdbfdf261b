-- What is read of a request: document 01, "The tile program".
use Rattle.std.specs.Prelude.{Bool, ◌&&◌, false, List, ℕ, ◌+◌, leb, pos, length, drop}
use Rattle.answers.specs.declared.Answer.TheVariants.{WrongArguments}
use Rattle.getbits.specs.Bits.{place_at}
use Rattle.getbits.specs.Chain.{pick}
use Rattle.program.specs.Input.{byte_at, two_at, is_input}
use Rattle.superblocks.specs.Counts.{multiplier_of}
use Rattle.tile_layout.specs.declared.TileArgs.{TileArgs}
use Rattle.tile_layout.specs.declared.TileInfo.{TileInfo}
use Rattle.tile_layout.specs.declared.TileRead.{TileRead}
use Rattle.tile_layout.specs.Limits.{no_tile_info, args_of}
use Rattle.tile_layout.specs.Layout.{parse_tile_info}

-- a width or a height: less one, it stands in two bytes, little-endian
abbrev pub samples_at : List ℕ → ℕ → ℕ
samples_at s i = two_at s i + 1

-- width - 1, height - 1, frame code, sequence code, level, tier; the multiplier is the pair's
abbrev pub request_args : List ℕ → TileArgs
request_args s =
    args_of (pos (multiplier_of (byte_at s 4) (byte_at s 5))) (byte_at s 4) (byte_at s 5) (pos (samples_at s 0)) (pos (samples_at s 2)) (byte_at s 6) (byte_at s 7)

-- eight bytes or more, and 65,536 at most
abbrev pub is_tile_request : List ℕ → Bool
is_tile_request s = leb 8 (length s) && is_input s

-- a request and then tiling bits, which are read over the layout `old`; another input is 4, and `old` comes back
unfoldable pub request_over : TileInfo → List ℕ → TileRead
request_over old s =
    pick (is_tile_request s)
    (parse_tile_info (drop 8 s) (place_at 0 false) old (request_args s))
    (record { answer = WrongArguments; info = old; next = place_at 0 false })

-- the same over the zero layout
unfoldable pub tile_request : List ℕ → TileRead
tile_request s = request_over no_tile_info s
