use native.Mathlib.Omega.{arith}
use Rattle.flat.proofs.Rows.{both}
use Rattle.flat_grain.specs.Grain.{flat_film_grain}
use Rattle.flat_grain.proofs.put_fields.Goals as goal

pub returns : goal.returns
unfolding flat_film_grain
returns c =
    let room = c.requires in
    let w2 = both c.put_head-at.ensures c.put_points-at.ensures.put_at (omega (arith, room)) in
    let w3 = both w2 c.put_bytes-at.ensures (omega (arith, room)) in
    let w4 = both w3 c.put_ar_coeffs-at.ensures (omega (arith, room)) in
    let w5 = both w4 c.put_bytes-at-2.ensures (omega (arith, room)) in
    let w6 = both w5 c.put_offsets-at.ensures (omega (arith, room)) in
    record { put_at = both w6 c.put_tail.ensures (omega (arith, room)); by_index = c.put_points-at.ensures.by_index }
