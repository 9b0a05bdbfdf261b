use mathlib.Core.Path.{refl, ◌∙◌}
use native.Mathlib.Omega.{arith}
use borrow.Author.Rules.{rules}
use Rattle.getbits.specs.Bits.{get_bit}
use Rattle.getbits.proofs.Places.{pos_past, pos_over, read_one, read_short}
use Rattle.getbits.proofs.get_bit.Goals as goal

pub returns-then-s-byte : goal.returns-then-s-byte
unfolding get_bit
returns-then-s-byte c =
    let a = c.args in
    c.exhausted.ensures ∙ read_short a.s.now a.p 1 (omega (arith, pos_past a.s.now a.p (search rules)))

pub returns-then-used-ge8 : goal.returns-then-used-ge8
unfolding get_bit
returns-then-used-ge8 c =
    let a = c.args in
    c.exhausted-then-used-ge8.ensures ∙ read_short a.s.now a.p 1 (omega (arith, pos_over a.s.now a.p (search rules)))

pub overflow_cast_b : goal.overflow_cast_b
overflow_cast_b c = omega (arith, c.shared_slice_known-2-1.given c.args.p.byte)

pub returns : goal.returns
unfolding get_bit
returns c =
    let a = c.args in
    read_one a.s.now a.p (omega arith) (omega arith) refl (omega arith) (omega arith)
