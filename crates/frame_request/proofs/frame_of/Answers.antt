use Prim.Native.Nat.{◌^◌, ◌<◌}
use native.Mathlib.Omega.{arith}
use mir.ValLaws.{to_z_pos}
use mir.Syntax.{w32}
use Rattle.frame_request.proofs.frame_of.Goals as goal

pub returns : goal.returns
returns c =
    let w : c.args.w < 2 ^ 31 = omega arith in
    let h : c.args.h < 2 ^ 31 = omega arith in
    rw (to_z_pos w32 c.args.w w, to_z_pos w32 c.args.h h, c.no_tile_info-tiling.ensures)
