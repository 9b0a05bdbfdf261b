use Rattle.std.proofs.Common.{rules}
use mathlib.Core.Path.{◌≡◌, sym, subst}
use Rattle.frame_layout.specs.Frame.{parse_tile_info_frmhdr, FrameLayout}
use Rattle.frame_layout.specs.declared.FrameRead.{FrameRead}
use Rattle.frame_layout.proofs.Cleared.{frame_promised}
use Rattle.frame_hdr.proofs.frame_layout.Goals as goal

pub returns-clause-frame_layout : goal.returns-clause-frame_layout
returns-clause-frame_layout c =
    let a = c.args in
    let read : FrameRead = record { answer = c.frame_layout_into-r.result.answer; hdr = c.with_layout.result; next = c.frame_layout_into-r.result.next } in
    let value : read ≡ parse_tile_info_frmhdr a.s.now a.p a.hdr a.seq = search rules in
    subst (FrameLayout a.s.now a.p a.hdr a.seq) (sym value) (frame_promised a.s.now a.p a.hdr a.seq)
