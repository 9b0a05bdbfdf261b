use mathlib.Core.Path.{refl, ◌∙◌}
use Prim.Native.Nat.{◌≤◌}
use native.Mathlib.Omega.{arith}
use lib.Pow.{pow_mono}
use Rattle.getbits.proofs.Callers.{power_below}
use Rattle.tile_layout.specs.Limits.{width_limit}
use Rattle.tile_info.proofs.Coded.{frame_code_lem, flag}
use Rattle.tile_info.proofs.limits.max_tile_width_sb.Goals as goal

low : (c : goal.After-power) → c.power.result ≤ 4
low c =
    rw c.power.ensures.0 (pow_mono {j = 2} (omega (arith, (flag _ c.from-2.ensures).1, (flag _ c.from.ensures).1)))

pub overflow_mul-power : goal.overflow_mul-power
overflow_mul-power c = omega (arith, low c)

pub returns : goal.returns
unfolding width_limit
returns c =
    let e = power_below (omega (arith, (flag _ c.from-2.ensures).1, (flag _ c.from.ensures).1)) c.power.ensures.0 in
    c.width_limit.ensures ∙ rw (e, (flag _ c.from.ensures).0, (flag _ c.from-2.ensures).0, frame_code_lem c.requires.in_the_domain c.requires.coded) refl
