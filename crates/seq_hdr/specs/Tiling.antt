-- The tiling of a sequence header.
use Rattle.std.specs.Prelude.{ℕ, List, Bool, true, false, pos}
use Rattle.answers.specs.declared.Answer.{Answer}
use Rattle.answers.specs.declared.Answer.TheVariants.{Accepted}
use Rattle.getbits.specs.Bits.{get_flag, flag_if}
use Rattle.getbits.specs.Chain.{pick, then}
use Rattle.getbits.specs.declared.Place.{Place}
use Rattle.tile_layout.specs.Limits.{no_tile_info, args_of}
use Rattle.tile_layout.specs.Layout.{parse_tile_info}
use Rattle.tile_layout.specs.declared.TileArgs.{TileArgs}
use Rattle.tile_layout.specs.declared.TileRead.{TileRead}
use Rattle.seq_fields.specs.declared.AdaptiveBoolean.TheVariants.{Off, On, Adaptive}
use Rattle.seq_picture.specs.declared.FrameSize.{FrameSize}
use Rattle.seq_picture.specs.declared.Level.{Level}
use Rattle.seq_record.specs.declared.SeqTiling.{SeqTiling}

-- what the layout is read for: one superblock size, the largest frame, the header's level and tier
abbrev pub tiling_args : ℕ → FrameSize → Level → TileArgs
tiling_args sb128 size level = args_of (pos 1) sb128 sb128 size.max_width size.max_height level.level level.tier

-- the layout of the largest frame, from the zero layout; without tiling the zero layout
unfoldable pub tile_info_if : Bool → ℕ → FrameSize → Level → List ℕ → Place → TileRead
tile_info_if true sb128 size level s p =
    parse_tile_info s p no_tile_info (tiling_args sb128 size level)
tile_info_if false sb128 size level s p = record { answer = Accepted; info = no_tile_info; next = p }

-- the answer, the tiling and the place after it
pub record TilingRead : Type 0 where
  pub answer : Answer
  pub value : SeqTiling
  pub next : Place

-- tiling: Off, or On or Adaptive with a layout
unfoldable pub read_tiling : ℕ → FrameSize → Level → List ℕ → Place → TilingRead
read_tiling sb128 size level s p =
    then (get_flag s p) λ present.
    then (flag_if present.value s present.next) λ adaptive.
    then (tile_info_if present.value sb128 size level s adaptive.next) λ t.
    record {
      answer = t.answer;
      value = record { present = pick adaptive.value Adaptive (pick present.value On Off); t = t.info };
      next = t.next;
    }
