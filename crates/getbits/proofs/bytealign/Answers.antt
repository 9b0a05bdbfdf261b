use Prim.Native.Nat.{◌*◌}
use native.Mathlib.Omega.{arith}
use Rattle.getbits.proofs.Places.{place_at_lem}
use Rattle.getbits.specs.Bits.{byte_pos, byte_align}
use Rattle.getbits.proofs.bytealign.Goals as goal

pub returns : goal.returns
unfolding byte_align
returns c =
    let a = c.args in
    place_at_lem c.byte_pos.result 0 (8 * byte_pos a.s.now a.p) a.p.error (omega (arith, c.byte_pos.ensures)) (omega arith)
