use native.Mathlib.Omega.{arith}
use Rattle.flat.proofs.Rows.{both}
use Rattle.flat_grain.proofs.put_ar_coeffs.Goals as goal

pub returns : goal.returns
returns c =
    both (both c.put_plane_coeffs-at.ensures c.put_plane_coeffs-at-2.ensures (omega (arith, c.requires))) c.put_plane_coeffs.ensures (omega (arith, c.requires))
