use mathlib.Core.Path.{ap, ◌∙◌}
use Prim.Native.Nat.{◌^◌, ◌<◌}
use native.Mathlib.Omega.{arith}
use lib.IntN.{pos}
use mir.ValLaws.{to_z_pos}
use mir.Syntax.{w32}
use Rattle.tile_request.proofs.multiplier.Goals as goal

pub returns : goal.returns
returns c =
    let m = c.multiplier_of in
    let h : m.result < 2 ^ 31 = omega (arith, m.ensures.1) in
    to_z_pos w32 m.result h ∙ ap pos m.ensures.0
