use mathlib.Core.Path.{◌≡◌, sym, ◌∙◌, ap}
use Prim.Native.Nat.{ℕ, min}
use native.Mathlib.Omega.{arith}
use Rattle.flat.specs.Layout.{buffers, put_layout}
use Rattle.flat.proofs.Room.{room, has_room_lem, put_over}
use Rattle.tile_info.proofs.Into.{in_front}
use Rattle.tile_layout.proofs.Domain.{domain, low_code, across, down}
use Rattle.tile_layout.specs.declared.TileInfo.{TileInfo}
use Rattle.superblocks.specs.Counts.{multiplier_of}
use Rattle.superblocks.proofs.Counts.{legal}
use Rattle.frame_layout.specs.Frame.{reused_info}
use Rattle.frame_hdr.proofs.Into.{Held, held}
use Rattle.frame_layout.proofs.Usable.{usable_tiles_lem}
use Rattle.frame_hdr.proofs.reuse.reused_layout.Goals as goal

pub reused_starts-requires : goal.reused_starts-requires
reused_starts-requires c =
    let a = c.args in
    let code : min c.of-pair.result.frame_code 2 ≡ a.a.frame_code = omega (arith, c.of-pair.ensures.0, low_code _ (domain _ c.requires.in_the_domain)) in
    let u = usable_tiles_lem _ _ _ c.requires.seq_cols_value in
    ((room (buffers a.info.now a.cols.now a.rows.now) c.requires.room).cols, u.few, u.low, rw (c.frame_count-sbw.ensures, code) (across _ (domain _ c.requires.in_the_domain)).most_all)

pub reused_starts-requires-2 : goal.reused_starts-requires-2
reused_starts-requires-2 c =
    let a = c.args in
    let code : min c.of-pair.result.frame_code 2 ≡ a.a.frame_code = omega (arith, c.of-pair.ensures.0, low_code _ (domain _ c.requires.in_the_domain)) in
    let u = usable_tiles_lem _ _ _ c.requires.seq_rows_value in
    ((room (buffers a.info.now a.cols.now a.rows.now) c.requires.room).rows, u.few, u.low, rw (c.frame_count-sbh.ensures, code) (down _ (domain _ c.requires.in_the_domain)).most_all)

pub returns : goal.returns
unfolding reused_info
returns c =
    let a = c.args.a in
    let code : min c.of-pair.result.frame_code 2 ≡ a.frame_code = omega (arith, c.of-pair.ensures.0, low_code _ (domain _ c.requires.in_the_domain)) in
    let multiplied : multiplier_of c.of-pair.result.frame_code c.of-pair.result.seq_code ≡ a.multiplier =
    ap (λ (f : ℕ). multiplier_of f c.of-pair.result.seq_code) c.of-pair.ensures.0
    ∙ ap (multiplier_of a.frame_code) c.of-pair.ensures.1
    ∙ legal _ _ _ (domain _ c.requires.in_the_domain).pair in
    -- the buffers lent, and the sequence's
    let b = buffers c.args.info.now c.args.cols.now c.args.rows.now in
    let seq = buffers c.args.seq_info.now c.args.seq_cols.now c.args.seq_rows.now in
    let room = room b c.requires.room in
    let roomy = has_room_lem seq (record { bytes = c.requires.in_bounds.0; cols = c.requires.in_bounds.1; rows = c.requires.in_bounds.2 }) in
    let t = reused_info a (Held seq) in
    let cols = rw (multiplied, c.frame_count-sbw.ensures, code) at c.reused_starts.ensures in
    let rows = rw (multiplied, c.frame_count-sbh.ensures, code) at c.reused_starts-2.ensures in
    put_over t b c.requires.room
    (rw c.is_set.ensures at c.put_layout_bytes.ensures)
    (in_front t.col_start_sb b.col_starts room.cols cols)
    (in_front t.row_start_sb b.row_starts room.rows rows)
    ∙ ap (λ (x : TileInfo). put_layout (reused_info a x) b) (sym (held seq roomy))
