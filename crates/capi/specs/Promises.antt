-- What is promised of a header's layout, over what a call leaves: the answer's number n and the lent buffers b.
use Rattle.std.specs.Prelude.{◌≡◌, true, List, ℕ}
use Rattle.answers.specs.Numbers.{is_refusal}
use Rattle.getbits.specs.declared.Place.{Place}
use Rattle.tile_layout.specs.Demand3.{Demand3}
use Rattle.tile_layout.specs.Cleared.{Cleared}
use Rattle.seq_hdr.specs.HeaderLayout.{HasLayout, layout_place, layout_args, layout_call}
use Rattle.flat.specs.Layout.{Buffers, layout_in}

-- the header's layout that a call leaves
pub record HeaderLeft (s : List ℕ) (p : Place) (n : ℕ) (b : Buffers) : Type 0 where
  -- demand 3 holds of the call of parse_tile_info
  pub demand3 : HasLayout s p → Demand3 s (layout_place s p) (layout_args s p) (layout_call s p)
  -- the header is refused with 2 exactly when that call is refused
  pub refused_with_2 : HasLayout s p → is_refusal (layout_call s p).answer ≡ true → n ≡ 2
  pub refused_only_then : HasLayout s p → n ≡ 2 → is_refusal (layout_call s p).answer ≡ true
  -- an accepted header leaves that call's layout
  pub layout : HasLayout s p → n ≡ 0 → layout_in b ≡ (layout_call s p).info
  -- and every header, accepted or not, zeros behind its layout's closing entries
  pub cleared : Cleared (layout_in b)
