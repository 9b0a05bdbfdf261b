use native.Mathlib.Omega.{arith}
use borrow.Author.Rules.{rules}
use lib.IntN.{ℤ}
use mir.Facts.{to_z-of_z}
use mir.Syntax.{w8}
use Rattle.flat.proofs.Rows.{both}
use Rattle.flat_hdr.specs.Header.{flat_quant}
use Rattle.flat_hdr.proofs.put_quant.Goals as goal

pub returns : goal.returns
unfolding flat_quant
returns c =
    let kept = to_z-of_z {w = w8} {z = c.args.q.base_ydc_dq} (record { sfits = search rules }) in
    both (both c.put_bytes-at.ensures (rw kept at (c.put_row-at.ensures.row (λ (x : ℤ). x) (λ x y h. h))) (omega (arith, c.requires))) c.put_bytes.ensures (omega (arith, c.requires))
