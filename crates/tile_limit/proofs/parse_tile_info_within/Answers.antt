use mathlib.Core.Path.{◌≡◌, sym, ◌∙◌, ap, subst}
use mir.Facts.{to_z-of_z}
use Rattle.tile_layout.specs.Layout.{parse_tile_info}
use Rattle.tile_layout.specs.Limits.{args_of}
use Rattle.tile_limit.specs.Promises.{LimitedTiles}
use Rattle.tile_limit.specs.Within.{tiles_within}
use Rattle.tile_limit.proofs.Limited.{limited_tiles}
use Rattle.tile_limit.proofs.parse_tile_info_within.Goals as goal

pub returns : goal.returns
returns c =
    let a = c.args in
    let asked = args_of a.sbmul a.sb128 a.seq_sb128 a.w a.h a.level a.tier in
    let read : c.parse_tile_info-r.result ≡ parse_tile_info a.s.now a.p a.thdr asked = rw (to_z-of_z c.ranges.sbmul, to_z-of_z c.ranges.w, to_z-of_z c.ranges.h) at c.parse_tile_info-r.ensures.value in
    let e = c.tiles_within.ensures ∙ ap (tiles_within a.limit a.thdr) read in
    record { value = e; limited_tiles = subst (LimitedTiles a.s.now a.p a.thdr asked a.limit) (sym e) (limited_tiles a.s.now a.p a.thdr asked a.limit) }
