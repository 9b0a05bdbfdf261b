use mathlib.Core.Path.{ap, ◌∙◌}
use Prim.Native.Nat.{◌+◌, ◌^◌, ◌<◌}
use native.Mathlib.Omega.{arith}
use lib.IntN.{pos}
use mir.ValLaws.{to_z_pos}
use mir.Syntax.{w32}
use Rattle.tile_request.proofs.samples.Goals as goal

pub returns : goal.returns
returns c =
    let n = c.two_at.result in
    let h : n + 1 < 2 ^ 31 = omega (arith, c.two_at.ensures.1) in
    to_z_pos w32 (n + 1) h ∙ ap pos (omega (arith, c.two_at.ensures.0))
