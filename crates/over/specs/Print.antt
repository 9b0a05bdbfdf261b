-- What the program over prints: request #107.
use Rattle.std.specs.Prelude.{List, ℕ, drop}
use Rattle.answers.specs.Numbers.{number_of, is_refusal}
use Rattle.getbits.specs.Chain.{pick, then}
use Rattle.program.specs.Input.{byte_at}
use Rattle.program.specs.Output.{refused_text}
use Rattle.tile_layout.specs.declared.TileRead.{TileRead}
use Rattle.tile_request.specs.Layout.{given_layout}
use Rattle.tile_request.specs.Request.{request_over}
use Rattle.tile_request.specs.Whole.{whole_layout_text}

-- a layout's record in 269 bytes, and behind it tile's input, which is read over that record
abbrev pub over_request : List ℕ → TileRead
over_request s = request_over (given_layout s) (drop 269 s)

-- what is printed of an input: the refusal, or the whole layout with the frame's superblock code, the fifth byte of tile's input
unfoldable pub over_text : List ℕ → List ℕ
over_text s =
    then (over_request s) λ r.
    pick (is_refusal r.answer) (refused_text (number_of r.answer)) (whole_layout_text r.info r.next (byte_at s 273))
