use mathlib.Core.Path.{◌≡◌, refl}
use Prim.Native.Nat.{min}
use native.Mathlib.Omega.{arith}
use mir.Facts.{to_z-of_z}
use Rattle.frame_hdr.proofs.reuse.same_counts.Goals as goal

pub returns : goal.returns
returns c =
    let code : min c.args.pair.seq_code 2 ≡ c.args.pair.seq_code = omega (arith, c.requires) in
    rw (c.same_number-2.ensures, c.same_number.ensures, c.seq_count-seq_sbh.ensures, c.seq_count-seq_sbw.ensures, c.not_below_0-2.ensures, c.not_below_0.ensures, to_z-of_z c.ranges.max_width, to_z-of_z c.ranges.max_height, code) refl
