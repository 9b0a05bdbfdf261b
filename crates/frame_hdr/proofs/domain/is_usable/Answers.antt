use mathlib.Core.Path.{◌≡◌, refl, sym, ◌∙◌}
use mathlib.Core.Bool.{Bool, true, false, ◌&&◌}
use mir.Facts.{to_z-of_z}
use Rattle.flat.specs.Layout.{buffers}
use Rattle.flat.proofs.Room.{has_room_lem}
use Rattle.frame_layout.specs.Frame.{is_off, usable}
use Rattle.frame_hdr.proofs.Into.{held}
use Rattle.frame_hdr.proofs.domain.is_usable.Goals as goal

and-true : (b : Bool) → b ≡ b && true
and-true true = refl
and-true false = refl

pub returns-then-is_off : goal.returns-then-is_off
unfolding usable
returns-then-is_off c =
    let off : is_off c.args.present ≡ true = sym c.is_off.ensures ∙ c.if-is_off.true in
    rw (c.is_extent-2.ensures, c.is_extent.ensures, to_z-of_z c.ranges.max_height, to_z-of_z c.ranges.max_width, off) (and-true _)

pub returns : goal.returns
unfolding usable
returns c =
    let a = c.args in
    let b = buffers a.info.now a.cols.now a.rows.now in
    let roomy = has_room_lem b (record { bytes = c.requires.0; cols = c.requires.1; rows = c.requires.2 }) in
    let on : is_off a.present ≡ false = sym c.is_off.ensures ∙ c.if-is_off.false in
    rw (held b roomy, on, c.usable_tiles-down.ensures, c.usable_tiles-across.ensures, c.is_extent-2.ensures, c.is_extent.ensures, to_z-of_z c.ranges.max_height, to_z-of_z c.ranges.max_width) refl
