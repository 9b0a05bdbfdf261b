use mathlib.Core.Path.{refl}
use native.Mathlib.Omega.{arith}
use Rattle.flat.specs.Layout.{buffers, layout_in}
use Rattle.flat.proofs.Room.{room, put_over}
use Rattle.tile_info.proofs.Into.{in_front, behind_stays, refused-into, accepted-into}
use Rattle.tile_info.proofs.Rules.{cols_short, rows_short, sized_made}
use Rattle.tile_layout.proofs.Domain.{domain, across, down, limits}
use Rattle.tile_layout.specs.Layout.{read_sizes, padded, non_uniform_edges, row_limit}
use Rattle.tile_info.proofs.read_nonuniform.Goals as goal

pub read_tiles-c-requires : goal.read_tiles-c-requires
read_tiles-c-requires c =
    let a = c.args in
    let k = c.requires.known in
    let d = domain a.a c.requires.in_the_domain in
    let b = buffers a.info.now a.cols.now a.rows.now in
    ((room b c.requires.room).cols, omega (arith, k.across, (across _ d).most_all), omega (arith, k.wide, (limits _ d).some))

pub returns-then-c : goal.returns-then-c
returns-then-c c =
    let a = c.args in
    let b = buffers a.info.now a.cols.now a.rows.now in
    let z = c.read_tiles-c.ensures in
    refused-into _ b _ _ (behind_stays c.read_tiles-c.result z) refl (layout_in b) _
    (cols_short a.s.now a.p (layout_in b) c.requires.known c.read_tiles-c.result z c.if-c.true)
    c.invalid_tile_info.ensures refl

pub read_tiles-r-requires : goal.read_tiles-r-requires
unfolding row_limit
read_tiles-r-requires c =
    let a = c.args in
    let b = buffers a.info.now a.cols.now a.rows.now in
    ((room b c.requires.room).rows, omega (arith, c.requires.known.down, (down _ (domain a.a c.requires.in_the_domain)).most_all), omega (arith, c.max_tile_height_sb-max_height.ensures))

pub returns-then-r : goal.returns-then-r
returns-then-r c =
    let a = c.args in
    let b = buffers a.info.now a.cols.now a.rows.now in
    let z = c.read_tiles-c.ensures in
    let y = c.read_tiles-r.ensures in
    refused-into _ b _ _ (behind_stays c.read_tiles-c.result z) (behind_stays c.read_tiles-r.result y) (layout_in b) _
    (rows_short a.s.now a.p (layout_in b) c.requires.known c.read_tiles-c.result z c.read_tiles-r.result _ c.if-c.false
    c.max_tile_height_sb-max_height.ensures y c.if-r.true)
    c.invalid_tile_info-then-r.ensures refl

pub bounds-info-5 : goal.bounds-info-5
bounds-info-5 c =
    let a = c.args in
    omega (arith, (room (buffers a.info.now a.cols.now a.rows.now) c.requires.room).bytes)

pub returns : goal.returns
unfolding layout_in
returns c =
    let a = c.args in
    let b = buffers a.info.now a.cols.now a.rows.now in
    let z = c.read_tiles-c.ensures in
    let y = c.read_tiles-r.ensures in
    let has = c.requires.room in
    let w = room b has in
    let k = a.k in
    let widths = (read_sizes 64 a.s.now a.p k.sbw.0 k.max_tile_width_sb.0).sizes in
    let heights = (read_sizes 64 a.s.now c.read_tiles-c.result.next k.sbh.0 c.max_tile_height_sb-max_height.result.0).sizes in
    accepted-into _ b _ _ (behind_stays c.read_tiles-c.result z) (behind_stays c.read_tiles-r.result y) _ _
    (sized_made a.s.now a.p (layout_in b) c.requires.known c.read_tiles-c.result z c.read_tiles-r.result _ c.if-c.false
    c.max_tile_height_sb-max_height.ensures y c.if-r.false _ (rw has refl))
    refl
    (put_over _ b has c.put_layout_bytes.ensures (in_front (padded (non_uniform_edges widths k.sbw.0)) a.cols.now w.cols z.stored)
    (in_front (padded (non_uniform_edges heights k.sbh.0)) a.rows.now w.rows y.stored))
