-- parse_tile_info over the lent buffers of a layout: the answer and the place after it, and beside them the buffers.
use Rattle.std.specs.Prelude.{List, ℕ}
use Rattle.answers.specs.Numbers.{is_refusal}
use Rattle.answers.specs.declared.Answer.TheVariants.{ShortBuffer}
use Rattle.getbits.specs.Chain.{pick}
use Rattle.getbits.specs.declared.Place.{Place}
use Rattle.tile_layout.specs.Layout.{parse_tile_info}
use Rattle.tile_layout.specs.declared.TileArgs.{TileArgs}
use Rattle.tile_layout.specs.declared.TileRead.{TileRead}
use Rattle.flat.specs.Layout.{Buffers, has_room, put_layout, layout_in}
use Rattle.tile_info.specs.declared.TileOutcome.{TileOutcome}

-- a reading's layout goes into the buffers; after a refusal they are what they were
abbrev pub read_into : TileRead → Buffers → TileOutcome × Buffers
read_into r b = (record { answer = r.answer; next = r.next }, pick (is_refusal r.answer) b (put_layout r.info b))

-- where one of them lacks room: 5, no bit used
unfoldable pub parse_tile_info_into : List ℕ → Place → Buffers → TileArgs → TileOutcome × Buffers
parse_tile_info_into s p b a =
    pick (has_room b) (read_into (parse_tile_info s p (layout_in b) a) b) (record { answer = ShortBuffer; next = p }, b)

-- the reading that a call leaves: its answer, the layout in the buffers after it, and the place
abbrev pub layout_left : TileOutcome → Buffers → TileRead
layout_left r b = record { answer = r.answer; info = layout_in b; next = r.next }
