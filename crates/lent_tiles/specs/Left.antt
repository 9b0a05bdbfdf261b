-- The records that a call leaves: the answer's number n and the lent buffers b.
use Rattle.std.specs.Prelude.{ℕ, eqb}
use Rattle.answers.specs.declared.Answer.{Answer}
use Rattle.answers.specs.declared.Answer.TheVariants.{Accepted, InvalidSequenceHeader, InvalidTileInfo, InvalidTrailingBits}
use Rattle.answers.specs.declared.Answer.TheVariants.{WrongArguments, ShortBuffer, TooManyTiles, InvalidFilmGrainData, NoSuchLayout}
use Rattle.getbits.specs.Chain.{pick}
use Rattle.getbits.specs.declared.Place.{Place}
use Rattle.tile_layout.specs.declared.TileRead.{TileRead}
use Rattle.frame_layout.specs.Frame.{with_layout}
use Rattle.frame_layout.specs.declared.FrameHeader.{FrameHeader}
use Rattle.frame_layout.specs.declared.FrameRead.{FrameRead}
use Rattle.flat.specs.Layout.{Buffers, layout_in}

-- the answer that has a number
abbrev pub answer_of : ℕ → Answer
answer_of n =
    pick (eqb n 0) Accepted (pick (eqb n 1) InvalidSequenceHeader (pick (eqb n 2) InvalidTileInfo (pick (eqb n 3) InvalidTrailingBits
    (pick (eqb n 4) WrongArguments (pick (eqb n 5) ShortBuffer (pick (eqb n 6) TooManyTiles
    (pick (eqb n 7) InvalidFilmGrainData NoSuchLayout)))))))

-- the layout that a call leaves
abbrev pub tiles_left : ℕ → Buffers → Place → TileRead
tiles_left n b p = record { answer = answer_of n; info = layout_in b; next = p }

-- the frame that a call leaves
abbrev pub frame_left : FrameHeader → ℕ → ℕ → Buffers → Place → FrameRead
frame_left h n code b p = record { answer = answer_of n; hdr = with_layout h code (layout_in b); next = p }
