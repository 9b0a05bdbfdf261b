use mathlib.Core.Path.{◌≡◌, sym, ap, ◌∙◌}
use mathlib.Core.Bool.{true}
use Rattle.tile_layout.proofs.Lengths.{cols_length, rows_length}
use Rattle.flat.specs.Layout.{Buffers, buffers, has_room, layout_in}
use Rattle.flat.proofs.Room.{put_over, comes_back}
use Rattle.flat.proofs.put_tile_info.Goals as goal

pub returns-then-has_room : goal.returns-then-has_room
returns-then-has_room c =
    let t = c.args.t in
    let b : Buffers = buffers c.args.info.now c.args.cols.now c.args.rows.now in
    let has : has_room b ≡ true = sym c.has_room.ensures ∙ c.if-has_room.true in
    let put = put_over t b has c.put_layout_bytes.ensures c.put_starts.ensures c.put_starts-then-has_room.ensures in
    record { is_put = put; reads_back = λ h. ap layout_in put ∙ comes_back t b (cols_length t _ c.well_formed.0) (rows_length t _ c.well_formed.0) h }
