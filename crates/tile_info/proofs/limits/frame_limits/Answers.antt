use mathlib.Core.Path.{◌≡◌, ◌∙◌, ap, ap₂}
use Prim.Native.Nat.{ℕ, min, max}
use Rattle.tile_layout.specs.Limits.{superblocks, sbw, sbh, tile_log2, min_log2_cols, max_log2_cols, max_log2_rows, min_log2_tiles}
use Rattle.tile_info.specs.Inner.{Coded}
use Rattle.tile_info.proofs.Coded.{frame_code_lem, whole, held_width, held_area}
use Rattle.tile_info.proofs.limits.frame_limits.Goals as goal

pub returns : goal.returns
unfolding min_log2_cols max_log2_cols max_log2_rows min_log2_tiles
returns c =
    let pair : Coded c.args.a c.of-pair.result = record { of_frame = c.of-pair.ensures.0; of_seq = c.of-pair.ensures.1 } in
    let code = frame_code_lem c.requires pair in
    let across : c.frame_count-sbw.result.0 ≡ sbw c.args.a = c.frame_count-sbw.ensures ∙ ap (superblocks c.args.a.width) code in
    let down : c.frame_count-sbh.result.0 ≡ sbh c.args.a = c.frame_count-sbh.ensures ∙ ap (superblocks c.args.a.height) code in
    let wide = c.max_tile_width_sb-max_width.ensures in
    let min_cols = c.log2_to-min_log2_cols.ensures ∙ held_width c.args.a c.requires wide across in
    record {
      coded = pair;
      across = across;
      down = down;
      wide = wide;
      min_cols = min_cols;
      max_cols = c.max_log2.ensures ∙ ap (λ (x : ℕ). tile_log2 1 (min x 64)) across;
      max_rows = c.max_log2-2.ensures ∙ ap (λ (x : ℕ). tile_log2 1 (min x 64)) down;
      min_tiles =
          c.max.ensures
          ∙ ap₂ max (c.log2_to-area_log2.ensures ∙ held_area c.args.a c.requires c.max_tile_area_sb.ensures (c.times.ensures ∙ whole c.args.a c.requires across down)) min_cols;
    }
