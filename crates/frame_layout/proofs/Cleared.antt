-- A frame's layout, read or reused, has zeros behind its closing entries, and a refusal hands back the one given. Assumes nothing.
use mathlib.Core.Path.{◌≡◌, refl}
use mathlib.Core.List.{List}
use Prim.Native.Nat.{ℕ, ◌*◌, ◌<◌}
use lib.ListN.{get_or}
use Rattle.getbits.proofs.Chain.{picked}
use Rattle.getbits.specs.Chain.{then}
use Rattle.getbits.specs.declared.Place.{Place}
use Rattle.tile_layout.specs.Limits.{sbw, sbh}
use Rattle.tile_layout.specs.Layout.{tabulate}
use Rattle.tile_layout.specs.Cleared.{Cleared, ReadOver}
use Rattle.tile_layout.specs.declared.TileArgs.{TileArgs}
use Rattle.tile_layout.specs.declared.TileInfo.{TileInfo}
use Rattle.tile_layout.proofs.Cleared.{accepted_over, refused_over, read_over_lem}
use Rattle.tile_layout.proofs.Laws.{length_tabulate, behind_closing}
use Rattle.frame_layout.specs.Frame.{frame_args, read_reuse, reused_starts, reused_info, fresh_layout, in_frame_domain, parse_tile_info_frmhdr, frame_tiles, FrameLayout}
use Rattle.frame_layout.proofs.Fresh.{fresh_demand_3}
use Rattle.frame_layout.specs.declared.FrameHeader.{FrameHeader}
use Rattle.frame_layout.specs.declared.FrameRead.{FrameRead}
use Rattle.frame_layout.specs.declared.SeqLayout.{SeqLayout}

-- whatever stands behind the closing entries of the sequence's record
reused_behind : (m : ℕ) (starts : List ℕ) (tiles closing k : ℕ) → tiles < k → get_or (reused_starts m starts tiles closing) k 0 ≡ 0
unfolding reused_starts
reused_behind m starts tiles closing k h = behind_closing (tabulate (λ i. m * get_or starts i 0) 0 tiles) _ tiles (length_tabulate _ 0 tiles) k h

reused_cleared : (a : TileArgs) (t : TileInfo) → Cleared (reused_info a t)
unfolding reused_info
reused_cleared a t =
    record { past_cols = reused_behind _ t.col_start_sb t.cols (sbw a); past_rows = reused_behind _ t.row_start_sb t.rows (sbh a) }

-- a frame's layout read over the one given
abbrev Over : FrameHeader → FrameRead → Type 0
Over h r = ReadOver h.tiling (frame_tiles r)

fresh_over : (s : List ℕ) (p : Place) (h : FrameHeader) (a : TileArgs) → Over h (fresh_layout s p h a)
unfolding fresh_layout then
fresh_over s p h a =
    let o = read_over_lem s p h.tiling a in
    record { cleared = λ e. rw e (o.cleared e); kept = λ e. rw e refl }

pub frame_over : (s : List ℕ) (p : Place) (h : FrameHeader) (q : SeqLayout) → Over h (parse_tile_info_frmhdr s p h q)
unfolding parse_tile_info_frmhdr then
frame_over s p h q =
    let a = frame_args h q in
    picked (Over h) (in_frame_domain h q) _ _
    (λ _. picked (Over h) (read_reuse s p a q).value _ _ (λ _. accepted_over _ refl (reused_cleared a q.t)) (λ _. fresh_over s _ h a))
    (λ _. refused_over _ refl refl)

pub frame_promised : (s : List ℕ) (p : Place) (h : FrameHeader) (q : SeqLayout) → FrameLayout s p h q (parse_tile_info_frmhdr s p h q)
frame_promised s p h q = record { fresh = fresh_demand_3 s p h q; over = frame_over s p h q }
