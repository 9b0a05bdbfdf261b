use mathlib.Core.Path.{◌≡◌, refl, sym}
use Prim.Native.Nat.{◌+◌, ◌^◌, ◌≤◌}
use native.Mathlib.Nat.{mod-lt}
use native.Mathlib.Omega.{arith}
use lib.Pow.{pow_mono, pow_pos}
use Rattle.getbits.specs.Bits.{bit_count, position}
use Rattle.getbits.proofs.Callers.{power_below}
use Rattle.getbits.proofs.Parts.{more_there, look_bits, skip_there, first_read, last_read}
use Rattle.film_grain.proofs.Numbers.{uncut}
use Rattle.film_grain.proofs.points.read_point.Goals as goal
use Rattle.film_grain.proofs.points.read_point.Goals.{After-skip}

-- the bits of both numbers are there
room : (c : After-skip) → let a = c.args in position a.s.now a.p + (a.index_bits + a.scaling_bits) ≤ bit_count a.s.now
room c = let a = c.args in more_there a.s.now a.p (a.index_bits + a.scaling_bits) c.more_than.ensures c.if-more_than.true

pub overflow_cast_result : goal.overflow_cast_result
overflow_cast_result c =
    let low : c.power.result ≡ 2 ^ c.args.scaling_bits = power_below (omega (arith, c.requires.3)) c.power.ensures.0 in
    let n = c.args.scaling_bits in
    record { fits = rw (low) (omega (arith, mod-lt c.look_ahead-w.result (pow_pos n), pow_mono {i = n} {j = 8} c.requires.3)) }

pub returns-then-more_than : goal.returns-then-more_than
returns-then-more_than c =
    let low : c.power.result ≡ 2 ^ c.args.scaling_bits = power_below (omega (arith, c.requires.3)) c.power.ensures.0 in
    let a = c.args in
    let w = c.look_ahead-w.result in
    let e = look_bits a.s.now a.p (a.index_bits + a.scaling_bits) (omega (arith, c.requires.1, c.requires.3)) c.look_ahead-w.ensures in
    let step = first_read a.s.now a.p a.index_bits a.scaling_bits w (room (goal.at.returns-then-more_than c).After-skip) e (omega (arith, c.requires.1)) in
    let value = last_read a.s.now a.p a.index_bits a.scaling_bits w (room (goal.at.returns-then-more_than c).After-skip) e (omega (arith, c.requires.3)) in
    rw (low, skip_there a.s.now a.p (a.index_bits + a.scaling_bits) (room (goal.at.returns-then-more_than c).After-skip) c.skip.ensures, step) (record { step_value = refl; next_value = sym (uncut _ _ a.scaling_bits c.requires.3 value) })

pub returns : goal.returns
returns c =
    rw (← c.read_bits-step.ensures) (record { step_value = refl; next_value = c.get_small-value.ensures.is })
