use mathlib.Core.Path.{◌≡◌, refl, sym, ap, ◌∙◌}
use Prim.Native.Nat.{ℕ, ◌+◌, ◌-◌, ◌*◌, ◌%◌, ◌^◌, ◌≤◌}
use native.Mathlib.Omega.{arith}
use borrow.Author.Rules.{rules}
use borrow.Author.Tests.{leb-true}
use lib.Dec.{leb}
use lib.ListN.{length-set}
use lib.Pow.{pow_mono}
use mir.Syntax.{w8, w16}
use mir.Val.{SFits, to_z, of_z}
use mir.ValLaws.{to_z-of_z}
use Rattle.getbits.specs.Chain.{turns}
use Rattle.getbits.proofs.Callers.{power_below}
use Rattle.getbits.proofs.Chain.{through, both, turns_more}
use Rattle.getbits.proofs.Parts.{more_there}
use Rattle.film_grain.specs.Coeffs.{CoeffsRead, bits_less, no_coeffs, coeff, coeffs_from}
use Rattle.film_grain.proofs.Numbers.{half_range}
use Rattle.film_grain.proofs.coeffs.read_coeffs.Goals as goal
use Rattle.film_grain.proofs.coeffs.read_coeffs.Goals.{After-bits_less-c}

-- half the range of a coefficient
half : {n r : ℕ} → n ≤ 8 → r ≡ 2 ^ ((n - 1) % 32) → r ≡ 2 ^ (n - 1)
half h e = power_below (omega (arith, h)) e

small : {n r : ℕ} → n ≤ 8 → r ≡ 2 ^ ((n - 1) % 32) → r ≤ 128
small {n} h e = omega (arith, half h e, pow_mono {i = n - 1} {j = 7} (omega (arith, h)))

-- four turns more
four_more : (n : ℕ) (f : ℕ → CoeffsRead → CoeffsRead) (a : CoeffsRead) → turns (n + 4) f a ≡ f (n + 3) (f (n + 2) (f (n + 1) (f n (turns n f a))))
four_more n f a =
    let t : ℕ → CoeffsRead = λ m. turns m f a in
    let e4 : n + 4 ≡ n + 3 + 1 = omega arith in
    let e3 : n + 3 ≡ n + 2 + 1 = omega arith in
    let e2 : n + 2 ≡ n + 1 + 1 = omega arith in
    ap t e4
    ∙ turns_more (n + 3) f a
    ∙ ap (f (n + 3)) (ap t e3 ∙ turns_more (n + 2) f a ∙ ap (f (n + 2)) (ap t e2 ∙ turns_more (n + 1) f a ∙ ap (f (n + 1)) (turns_more n f a)))

-- a coefficient
read : (c : After-bits_less-c) → let a = c.args in
    c.bits_less-c.result ≡ bits_less a.s.now c.loop-i.next a.coef_bits (2 ^ (a.coef_bits - 1))
read c =
    let a = c.args in
    c.bits_less-c.ensures ∙ ap (bits_less a.s.now c.loop-i.next a.coef_bits) (half c.requires.2 c.power-half.ensures.0)

fits : (c : After-bits_less-c) → SFits w8 c.bits_less-c.result.value
fits c =
    let a = c.args in
    record { sfits = rw (read c) (omega (arith, half_range a.s.now c.loop-i.next a.coef_bits c.requires.1, half c.requires.2 c.power-half.ensures.0, small c.requires.2 c.power-half.ensures.0)) }

back : (c : After-bits_less-c) → to_z w16 (of_z w16 c.bits_less-c.result.value) ≡ c.bits_less-c.result.value
back c = search rules

pub loop_i_init : goal.loop_i_init
unfolding turns
loop_i_init c = let z = c.requires.3 in (omega arith, rw z refl, rw z refl)

pub four_coeffs_next_requires : goal.four_coeffs_next_requires
four_coeffs_next_requires c =
    let t = both (leb (c.loop-i.i + 4) c.args.n) c.more_than.result c.if-i-n.true in
    (c.requires.1, c.requires.2, half c.requires.2 c.power-half.ensures.0, omega (arith, leb-true (c.loop-i.i + 4) c.args.n t.0, c.requires.0, c.loop-i.invariant.1), more_there c.args.s.now c.loop-i.next (4 * c.args.coef_bits) c.more_than.ensures t.1)

pub overflow_mul_coef_bits : goal.overflow_mul_coef_bits
overflow_mul_coef_bits c = omega (arith, c.requires.2)

pub overflow_add_i_then_i_n : goal.overflow_add_i_then_i_n
overflow_add_i_then_i_n c =
    omega (arith, leb-true (c.loop-i.i + 4) c.args.n (both _ _ c.if-i-n.true).0, c.requires.0)

pub loop_i_smaller_then_i_n : goal.loop_i_smaller_then_i_n
loop_i_smaller_then_i_n c =
    omega (arith, leb-true (c.loop-i.i + 4) c.args.n (both _ _ c.if-i-n.true).0)

pub loop_i_preserved_then_i_n : goal.loop_i_preserved_then_i_n
loop_i_preserved_then_i_n c =
    let f = coeff c.args.s.now c.args.coef_bits in
    let start = no_coeffs c.args.p in
    let i = c.loop-i.i in (
      leb-true (i + 4) c.args.n (both _ _ c.if-i-n.true).0,
      omega (arith, c.loop-i.invariant.1),
      c.four_coeffs-next.ensures ∙ ap (λ (x : CoeffsRead). f (i + 3) (f (i + 2) (f (i + 1) (f i x)))) c.loop-i.invariant.2 ∙ sym (four_more i f start),
    )

pub bits_less_c_requires : goal.bits_less_c_requires
bits_less_c_requires c = (omega (arith, c.requires.2), omega (arith, small c.requires.2 c.power-half.ensures.0))

pub overflow_cast_coeffs : goal.overflow_cast_coeffs
overflow_cast_coeffs c = rw (back (goal.at.overflow_cast_coeffs c).After-bits_less-c) (fits (goal.at.overflow_cast_coeffs c).After-bits_less-c)

pub bounds_coeffs_i : goal.bounds_coeffs_i
bounds_coeffs_i c = omega (arith, c.loop-i.invariant.1, c.requires.0)

pub loop_i_preserved : goal.loop_i_preserved
unfolding coeff
loop_i_preserved c = (
  omega arith,
  simp length-set c.loop-i.invariant.1,
  rw (back (goal.at.loop_i_preserved c).After-bits_less-c, to_z-of_z w8 _ (fits (goal.at.loop_i_preserved c).After-bits_less-c)) (sym (turns_more _ _ _ ∙ ap (coeff _ _ _) (sym c.loop-i.invariant.2) ∙ through _ _ (read (goal.at.loop_i_preserved c).After-bits_less-c))),
)

pub shape_of_coeffs : goal.shape_of_coeffs
shape_of_coeffs c = c.loop-i.invariant.1 ∙ sym (rw c.requires.3 refl)

pub returns : goal.returns
unfolding coeffs_from
returns c =
    let a = c.args in
    let e : c.loop-i.i ≡ a.n = omega arith in
    c.loop-i.invariant.2 ∙ ap (λ (m : ℕ). turns m (coeff a.s.now a.coef_bits) (no_coeffs a.p)) e
