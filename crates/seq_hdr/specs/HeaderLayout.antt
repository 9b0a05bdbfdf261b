-- DEMAND 3 of the layout that a sequence header has, and what stands behind its closing entries, whatever the bytes s and the place p.
use Rattle.std.specs.Prelude.{◌≡◌, true, false, List, ℕ}
use Rattle.answers.specs.Numbers.{number_of, is_refusal}
use Rattle.getbits.specs.Bits.{get_flag}
use Rattle.getbits.specs.declared.Place.{Place}
use Rattle.tile_layout.specs.declared.TileArgs.{TileArgs}
use Rattle.tile_layout.specs.declared.TileRead.{TileRead}
use Rattle.tile_layout.specs.Limits.{no_tile_info}
use Rattle.tile_layout.specs.Layout.{parse_tile_info}
use Rattle.tile_layout.specs.Demand3.{Demand3}
use Rattle.tile_layout.specs.Cleared.{Cleared}
use Rattle.seq_record.specs.declared.SequenceHeader.{SequenceHeader}
use Rattle.seq_hdr.specs.Tiling.{tiling_args}
use Rattle.seq_hdr.specs.declared.SeqRead.{SeqRead}
use Rattle.seq_hdr.specs.Header.{read_head}

-- the header has a layout: nothing before the tiling is refused, and the tiling flag is set
abbrev pub HasLayout : List ℕ → Place → Type 0
HasLayout s p = (is_refusal (read_head s p).answer ≡ false) × ((get_flag s (read_head s p).next).value ≡ true)

-- where the layout begins: behind the two flags of the tiling
abbrev pub layout_place : List ℕ → Place → Place
layout_place s p = (get_flag s (get_flag s (read_head s p).next).next).next

-- what it is read for: the fields before it say so
abbrev pub args_before : SequenceHeader → TileArgs
args_before hdr = tiling_args hdr.blocks.partition.sb128 hdr.picture.size hdr.level

abbrev pub layout_args : List ℕ → Place → TileArgs
layout_args s p = args_before (read_head s p).hdr

-- the call of parse_tile_info, over the zero layout
abbrev pub layout_call : List ℕ → Place → TileRead
layout_call s p = parse_tile_info s (layout_place s p) no_tile_info (layout_args s p)

pub record HeaderLayout (s : List ℕ) (p : Place) (r : SeqRead) : Type 0 where
  -- demand 3 holds of that call
  pub demand3 : HasLayout s p → Demand3 s (layout_place s p) (layout_args s p) (layout_call s p)
  -- the header is refused with 2 exactly when the call is refused
  pub refused_with_2 : HasLayout s p → is_refusal (layout_call s p).answer ≡ true → number_of r.answer ≡ 2
  pub refused_only_then : HasLayout s p → number_of r.answer ≡ 2 → is_refusal (layout_call s p).answer ≡ true
  -- an accepted header has the call's layout
  pub layout : HasLayout s p → is_refusal r.answer ≡ false → r.hdr.tiling.t ≡ (layout_call s p).info
  -- and every header, accepted or not, zeros behind its layout's closing entries: request #107
  pub cleared : Cleared r.hdr.tiling.t
