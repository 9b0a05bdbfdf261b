-- What the program panel prints: request #101.
use Rattle.std.specs.Prelude.{List, ℕ}
use Rattle.program.specs.Output.{either_text}
use Rattle.tile_layout.specs.Limits.{no_tile_info}
use Rattle.tile_layout.specs.declared.TileRead.{TileRead}
use Rattle.frame_layout.specs.declared.FrameRead.{FrameRead}
use Rattle.tile_limit.specs.Within.{panel, tiles_within, frame_within}
use Rattle.tile_request.specs.Print.{tile_read_text}
use Rattle.tile_request.specs.Request.{tile_request}
use Rattle.frame_request.specs.Print.{frame_read_text}
use Rattle.frame_request.specs.Request.{given_frame, frame_request}

-- what tile reads, within the panel's limit
abbrev pub panel_tiles : List ℕ → TileRead
panel_tiles s = tiles_within panel no_tile_info (tile_request s)

-- what frame reads likewise
abbrev pub panel_frame : List ℕ → FrameRead
panel_frame s = frame_within panel (given_frame s) (frame_request s)

-- what is printed of an input
unfoldable pub panel_text : List ℕ → List ℕ
panel_text = either_text (λ s. tile_read_text (panel_tiles s)) (λ s. frame_read_text (panel_frame s))
