-- The limited readings over lent buffers.
use Rattle.std.specs.Prelude.{ℕ, Bool, List}
use Rattle.tile_layout.specs.declared.TileArgs.{TileArgs}
use Rattle.frame_layout.specs.declared.FrameHeader.{FrameHeader}
use Rattle.frame_layout.specs.declared.SeqLayout.{SeqLayout}
use Rattle.flat.specs.Layout.{Buffers}
use Rattle.lent_tiles.specs.Calls.{lent_tiles, lent_frames}
use Rattle.tile_limit.specs.Within.{parse_tile_info_within, parse_tile_info_frmhdr_within}
use Rattle.tile_limit.specs.declared.TileLimit.{TileLimit}

-- the limit that a call is given
abbrev pub limit_given : ℕ → ℕ → TileLimit
limit_given cols rows = record { cols = cols; rows = rows }

-- parse_tile_info_within over the buffers of a layout
abbrev pub lent_tile_info_within : List ℕ → ℕ → ℕ → Buffers → TileArgs → TileLimit → List ℕ × Buffers
lent_tile_info_within s position error b a m = lent_tiles (λ p old. parse_tile_info_within s p old a m) position error b

-- parse_tile_info_frmhdr_within over the buffers of the frame's layout and of the sequence's
abbrev pub lent_frame_within : List ℕ → ℕ → ℕ → Buffers → Buffers → Bool → FrameHeader → SeqLayout → TileLimit → List ℕ × ℕ × Buffers
lent_frame_within s position error b seq known h q m =
    lent_frames (λ p. parse_tile_info_frmhdr_within s p h q m) s position error h.sb128 b seq known
