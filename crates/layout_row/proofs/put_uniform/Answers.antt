use mathlib.Core.Path.{◌≡◌, ap, ◌∙◌}
use Prim.Native.Nat.{ℕ, ◌+◌, ◌-◌, ◌%◌, ◌^◌, ◌≤◌, ◌<◌}
use native.Mathlib.Nat.{lt_of_le_of_lt}
use native.Mathlib.Omega.{arith}
use Rattle.codes.specs.Codes.{bit_length}
use Rattle.codes.proofs.Callers.{length_is, pow_lt_only}
use Rattle.layout_bits.proofs.Numbers.{length_bits, code_few, code_short, code_later}
use Rattle.layout_row.proofs.Append.{nothing}
use Rattle.layout_row.proofs.put_uniform.Goals as goal
use Rattle.layout_row.proofs.put_uniform.Goals.{After-power}

-- what is known of the bit length and of the power
record Lengths (max l power : ℕ) : Type 0 where
  is : l ≡ bit_length max
  some : 1 ≤ l
  most : l ≤ 11
  whole : power ≡ 2 ^ bit_length max
  over : max < power

lengths : (c : After-power) → Lengths c.args.max c.bit_length-l.result c.power.result
lengths c =
    let max = c.args.max in
    let l = c.bit_length-l.ensures in
    let is = length_is max (omega (arith, c.if-max-le1.false)) (omega (arith, c.requires.1)) in
    let few = pow_lt_only (bit_length max - 1) 11 (lt_of_le_of_lt is.3 (omega (arith, c.requires.1))) in
    let low : c.bit_length-l.result % 32 ≡ bit_length max = omega (arith, l, is.1) in
    let p = c.power.ensures.0 ∙ ap (λ (n : ℕ). 2 ^ n) low in
    record { is = l; some = omega (arith, l, is.0); most = omega (arith, l, few); whole = p; over = rw p is.2 }

pub returns-then-max-le1 : goal.returns-then-max-le1
returns-then-max-le1 c =
    let a = c.args in
    (rw (code_few a.max a.v c.if-max-le1.true) (nothing a.row.now a.at), omega arith)

pub overflow_sub_m : goal.overflow_sub_m
overflow_sub_m c =
    omega (arith, (lengths (goal.at.overflow_sub_m c).After-power).over)

pub overflow_sub_l : goal.overflow_sub_l
overflow_sub_l c =
    omega (arith, (lengths (goal.at.overflow_sub_l c).After-power).some)

pub put_bits_requires : goal.put_bits_requires
put_bits_requires c =
    let k = lengths (goal.at.put_bits_requires c).After-power in
    (omega (arith, k.most, c.requires.0), omega (arith, k.most))

pub returns-then-v-m : goal.returns-then-v-m
returns-then-v-m c =
    let k = lengths (goal.at.returns-then-v-m c).After-power in
    let a = c.args in
    let r = c.put_bits.ensures in (
      rw (code_short a.max a.v c.if-max-le1.false (rw k.whole at c.if-v-m.true)) (rw k.is at r),
      omega (arith, r.ends, length_bits (c.bit_length-l.result - 1) a.v, k.most),
    )

pub overflow_add_v : goal.overflow_add_v
overflow_add_v c =
    omega (arith, c.power.ensures.2, c.requires.2)

pub put_bits_requires_2 : goal.put_bits_requires_2
put_bits_requires_2 c =
    let k = lengths (goal.at.put_bits_requires_2 c).After-power in
    (omega (arith, k.most, c.requires.0), omega (arith, k.most))

pub returns : goal.returns
returns c =
    let k = lengths (goal.at.returns c).After-power in
    let a = c.args in
    let r = c.put_bits-2.ensures in (
      rw (code_later a.max a.v c.if-max-le1.false (rw k.whole at c.if-v-m.false)) (rw (k.is, k.whole) at r),
      omega (arith, r.ends, length_bits c.bit_length-l.result (a.v + (c.power.result - a.max)), k.most),
    )
