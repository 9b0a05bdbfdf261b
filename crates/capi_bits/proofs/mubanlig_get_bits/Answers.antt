use Rattle.std.proofs.Common.{◌≡◌, ◌<◌, T, ℤ, pos, nat_abs, ap, ◌∙◌, arith, to_z-of_z}
use lib.Signed.{non_neg}
use Rattle.codes.proofs.Args.{in_range}
use Rattle.getbits.specs.Bits.{get_bits}
use Rattle.lent.specs.Lent.{place_of}
use Rattle.capi_bits.specs.Numbers.{lent_number}
use Rattle.capi_bits.proofs.Ahead.{bits_on}
use Rattle.capi_bits.proofs.mubanlig_get_bits.Goals as goal
use Rattle.capi_bits.proofs.mubanlig_get_bits.Goals.{Then-at-s}

-- a width that can be read
module _ (c : Then-at-s) where
  abbrev n : ℤ
  n = c.args.n

  known : T (non_neg n) × (nat_abs n < 33) × (pos (nat_abs n) ≡ n)
  known = in_range n 33 (rw (to_z-of_z c.ranges.n) at c.if-n.true)

pub overflow_cast_width : goal.overflow_cast_width
overflow_cast_width c = rw (to_z-of_z c.ranges.n) ((known (goal.at.overflow_cast_width c).Then-at-s).0, omega (arith, (known (goal.at.overflow_cast_width c).Then-at-s).1))

pub overflow_cast_width_then_at_s : goal.overflow_cast_width_then_at_s
overflow_cast_width_then_at_s c = rw (to_z-of_z c.ranges.n) (omega (arith, (known (goal.at.overflow_cast_width_then_at_s c).Then-at-s).1))

pub returns-then-at-s : goal.returns-then-at-s
returns-then-at-s c =
    let a = c.args in
    let same = to_z-of_z c.ranges.n in
    bits_on a.s.now a.position.now a.error.now (nat_abs a.n) (omega (arith, (known (goal.at.returns-then-at-s c).Then-at-s).1)) (omega (arith, (known (goal.at.returns-then-at-s c).Then-at-s).1))
    (rw (same, c.place_of.ensures) at c.look_ahead.ensures) (rw same at c.wrapping_add_usize.ensures.value)
    ∙ ap (λ (z : ℤ). lent_number (get_bits a.s.now (place_of a.position.now a.error.now) z) a.error.now) (known (goal.at.returns-then-at-s c).Then-at-s).2

pub returns : goal.returns
returns c =
    rw (to_z-of_z c.ranges.n) at c.read_bits.ensures
