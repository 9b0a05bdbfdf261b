-- What HeaderLayout says, of a header's answer by its number n, and of the layout t that the header has.
use Rattle.std.specs.Prelude.{◌≡◌, true, List, ℕ}
use Rattle.answers.specs.Numbers.{is_refusal}
use Rattle.getbits.specs.declared.Place.{Place}
use Rattle.tile_layout.specs.declared.TileInfo.{TileInfo}
use Rattle.tile_layout.specs.Demand3.{Demand3}
use Rattle.tile_layout.specs.Cleared.{Cleared}
use Rattle.seq_hdr.specs.HeaderLayout.{HasLayout, layout_place, layout_args, layout_call}

pub record HeaderTiling (s : List ℕ) (p : Place) (n : ℕ) (t : TileInfo) : Type 0 where
  -- demand 3 holds of that call
  pub demand3 : HasLayout s p → Demand3 s (layout_place s p) (layout_args s p) (layout_call s p)
  -- the header is refused with 2 exactly when the call is refused
  pub refused_with_2 : HasLayout s p → is_refusal (layout_call s p).answer ≡ true → n ≡ 2
  pub refused_only_then : HasLayout s p → n ≡ 2 → is_refusal (layout_call s p).answer ≡ true
  -- an accepted header has the call's layout
  pub layout : HasLayout s p → n ≡ 0 → t ≡ (layout_call s p).info
  -- and every header, accepted or not, zeros behind its layout's closing entries: request #107
  pub cleared : Cleared t
