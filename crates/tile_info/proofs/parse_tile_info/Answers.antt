use mathlib.Core.Path.{refl, ◌∙◌, ap}
use mir.Facts.{to_z-of_z}
use Rattle.flat.specs.Layout.{has_room}
use Rattle.flat.proofs.Room.{put_room}
use Rattle.tile_layout.specs.Limits.{args_of}
use Rattle.tile_layout.proofs.Lengths.{cols_length, rows_length}
use Rattle.tile_info.proofs.Into.{whole_read, promised}
use Rattle.tile_info.proofs.parse_tile_info.Goals as goal

pub returns : goal.returns
returns c =
    let k = c.args in
    let f = c.ranges in
    let t = k.thdr in
    let put = c.put_tile_info.ensures in
    let a = args_of k.sbmul k.sb128 k.seq_sb128 k.w k.h k.level k.tier in
    let has = ap has_room put.is_put ∙ put_room t _ (cols_length t _ c.well_formed.1.1.0) (rows_length t _ c.well_formed.1.1.0) refl in
    let w = promised k.s.now k.p t a
    (whole_read k.s.now k.p t a _ (put.reads_back refl) (c.parse_tile_info_into-r.ensures.as_by_value has) (rw (to_z-of_z f.sbmul, to_z-of_z f.w, to_z-of_z f.h) refl) c.tile_info_of-info.ensures) in
    record { value = w.0; demand3 = w.1.0; read_over = w.1.1 }
