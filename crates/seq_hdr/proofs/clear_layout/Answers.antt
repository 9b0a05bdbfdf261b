use Rattle.flat.specs.Layout.{buffers}
use Rattle.flat.proofs.Room.{put_over}
use Rattle.tile_layout.specs.Limits.{no_tile_info}
use Rattle.seq_hdr.proofs.clear_layout.Goals as goal

pub returns : goal.returns
returns c =
    let a = c.args in
    put_over no_tile_info (buffers a.info.now a.cols.now a.rows.now) c.requires c.put_layout_bytes.ensures c.clear_starts.ensures c.clear_starts-2.ensures
