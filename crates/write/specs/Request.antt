-- What the program write reads from its input: request #106. The first eight bytes are as in the input of tile.
use Rattle.std.specs.Prelude.{List, ℕ, drop}
use Rattle.tile_request.specs.Layout.{given_layout}
use Rattle.tile_request.specs.Request.{request_args}
use Rattle.layout_writing.specs.declared.Written.{Written}
use Rattle.layout_writing.specs.Write.{write_tile_info}

-- the layout whose record stands behind these eight is written into a lent buffer: the answer, and the buffer after it
abbrev pub write_request : List ℕ → List ℕ → Written × List ℕ
write_request s out = write_tile_info (request_args s) (given_layout (drop 8 s)) out
