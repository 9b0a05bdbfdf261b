-- Behind the closing entries of an accepted layout stand zeros, and a refusal hands back the record given. Assumes nothing.
use mathlib.Core.Path.{◌≡◌, refl}
use mathlib.Core.Bool.{true, false}
use mathlib.Core.List.{List}
use Prim.Native.Nat.{ℕ, ◌*◌, ◌<◌}
use lib.Dec.{ltb}
use lib.ListN.{length, get_or}
use Rattle.answers.specs.Numbers.{is_refusal}
use Rattle.getbits.proofs.Chain.{picked, contrary}
use Rattle.getbits.proofs.Stores.{zeros_at}
use Rattle.getbits.specs.Bits.{get_flag}
use Rattle.getbits.specs.Chain.{then}
use Rattle.getbits.specs.declared.Place.{Place}
use Rattle.tile_layout.specs.declared.TileArgs.{TileArgs}
use Rattle.tile_layout.specs.declared.TileInfo.{TileInfo}
use Rattle.tile_layout.specs.declared.TileRead.{TileRead}
use Rattle.tile_layout.specs.Limits.{superblocks, sbw, sbh, in_domain, no_tile_info}
use Rattle.tile_layout.specs.Layout.{padded, tabulate, start_at, full_count, total_count, uniform_count, uniform_edges, starts_from, sum, read_cols, read_rows, uniform_info, uniform_layout, non_uniform_info, non_uniform_layout, parse_tile_info}
use Rattle.tile_layout.specs.Cleared.{Cleared, ReadOver}
use Rattle.tile_layout.proofs.Laws.{length_tabulate, behind_closing}
use Rattle.tile_layout.proofs.Sized.{length_starts}

pub none_cleared : Cleared no_tile_info
none_cleared = record { past_cols = λ i _. zeros_at 65 i; past_rows = λ j _. zeros_at 65 j }

uniform_behind : (a : TileArgs) (n log k : ℕ) → uniform_count a n log < k → get_or (padded (uniform_edges a n log)) k 0 ≡ 0
uniform_behind a n log k h =
    let starts = tabulate (λ i. a.multiplier * start_at (full_count a n) (total_count a n) log i) 0 (uniform_count a n log) in
    behind_closing starts (superblocks n a.frame_code) (uniform_count a n log) (length_tabulate _ 0 _) k h

uniform_cleared : (a : TileArgs) (log-cols log-rows : ℕ) → Cleared (uniform_info a log-cols log-rows)
unfolding uniform_info
uniform_cleared a log-cols log-rows = record { past_cols = uniform_behind a a.width log-cols; past_rows = uniform_behind a a.height log-rows }

sized_cleared : (a : TileArgs) (old : TileInfo) (widths heights : List ℕ) → Cleared (non_uniform_info a old widths heights)
unfolding non_uniform_info
sized_cleared a old widths heights =
    record {
      past_cols = behind_closing (starts_from 0 widths) (sbw a) (length widths) (length_starts widths 0);
      past_rows = behind_closing (starts_from 0 heights) (sbh a) (length heights) (length_starts heights 0);
    }

module _ {old : TileInfo} (z : TileRead) where
  pub accepted_over : is_refusal z.answer ≡ false → Cleared z.info → ReadOver old z
  accepted_over e c = record { cleared = λ _. c; kept = λ f. contrary f e }

  pub refused_over : is_refusal z.answer ≡ true → z.info ≡ old → ReadOver old z
  refused_over e k = record { cleared = λ f. contrary e f; kept = λ _. k }

sizes_over : (s : List ℕ) (p : Place) (old : TileInfo) (a : TileArgs) → ReadOver old (non_uniform_layout s p old a)
unfolding non_uniform_layout then
sizes_over s p old a =
    let c = read_cols s p a in
    let r = read_rows s c a in
    picked (ReadOver old) (ltb (sum c.sizes) (sbw a)) _ _ (λ _. refused_over _ refl refl)
    (λ _. picked (ReadOver old) (ltb (sum r.sizes) (sbh a)) _ _ (λ _. refused_over _ refl refl)
    (λ _. accepted_over _ refl (sized_cleared a old c.sizes r.sizes)))

-- whatever the bytes, the place and the arguments
pub read_over_lem : (s : List ℕ) (p : Place) (old : TileInfo) (a : TileArgs) → ReadOver old (parse_tile_info s p old a)
unfolding parse_tile_info uniform_layout then
read_over_lem s p old a =
    let f = get_flag s p in
    picked (ReadOver old) (in_domain a) _ _
    (λ _. picked (ReadOver old) f.value _ _ (λ _. accepted_over _ refl (uniform_cleared a _ _)) (λ _. sizes_over s f.next old a))
    (λ _. refused_over _ refl refl)
