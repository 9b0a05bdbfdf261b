use Rattle.std.proofs.Common.{ℕ, ◌/◌, sym, refl, ap, ◌∙◌, arith, rules}
use Rattle.getbits.proofs.Callers.{width_in}
use Rattle.getbits.specs.Bits.{get_bit}
use Rattle.getbits.specs.declared.Read.{Read}
use Rattle.lent.specs.Lent.{place_of}
use Rattle.capi_bits.specs.Numbers.{lent_number}
use Rattle.capi_bits.proofs.Ahead.{bit_on}
use Rattle.capi_bits.proofs.mubanlig_get_bit.Goals as goal

pub overflow_cast-result : goal.overflow_cast-result
overflow_cast-result c = omega (arith, c.shared_slice_known-then-byte-s-1.given (c.args.position.now / 8))

pub returns-then-byte-s : goal.returns-then-byte-s
returns-then-byte-s c =
    let a = c.args in
    bit_on a.s.now a.position.now a.error.now (search rules) refl c.wrapping_add_usize.ensures.value

pub returns : goal.returns
unfolding get_bit
returns c =
    let a = c.args in
    c.read_bits.ensures
    ∙ ap (λ (x : Read ℕ). lent_number x a.error.now) (sym (width_in a.s.now (place_of a.position.now a.error.now) 1 (omega arith)))
