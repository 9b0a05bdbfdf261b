use mathlib.Core.List.{List}
use mathlib.Core.Path.{◌≡◌, sym, ap, ◌∙◌}
use Prim.Native.Nat.{ℕ, suc, ◌+◌, ◌-◌, ◌*◌, ◌/◌, ◌%◌, ◌^◌, ◌<◌, ◌≤◌}
use native.Mathlib.Nat.{mod-lt, pow-suc}
use native.Mathlib.Omega.{arith}
use borrow.Author.Rules.{rules}
use lib.IntN.{ℤ, pos, ◌-ℤ◌}
use lib.ListN.{set, length-set}
use lib.Pow.{pow_mono, pow_pos}
use mir.Syntax.{w8}
use mir.Val.{to_z, of_z}
use Rattle.getbits.specs.Bits.{bits_at, bit_count, position, place_at, get_bits}
use Rattle.getbits.specs.declared.Place.{Place}
use Rattle.getbits.proofs.Callers.{power_below}
use Rattle.getbits.proofs.Chain.{through}
use Rattle.getbits.proofs.Fields.{bits_lt}
use Rattle.getbits.proofs.Parts.{look_bits, skip_there, first_bits, first_read, last_read}
use Rattle.film_grain.specs.Coeffs.{coeff}
use Rattle.film_grain.specs.Inner.{lent_coeffs}
use Rattle.film_grain.proofs.Numbers.{less_read}
use Rattle.film_grain.proofs.coeffs.four_coeffs.Goals as goal
use Rattle.film_grain.proofs.coeffs.four_coeffs.Goals.{After-power-low, After-skip}

-- a coefficient, from its bits
put : (s : List ℕ) (n i v : ℕ) (l : List ℤ) (p q : Place) → get_bits s p (pos n) ≡ record { value = v; next = q }
    → coeff s n i (lent_coeffs l p) ≡ lent_coeffs (set l i (pos v -ℤ pos (2 ^ (n - 1)))) q
unfolding coeff
put s n i v l p q e = through _ _ (sym (less_read s p n (2 ^ (n - 1)) e))

-- the four, side by side
module _ (s : List ℕ) (p : Place) (n w : ℕ) (small : n ≤ 8) (room : position s p + 4 * n ≤ bit_count s) (e : w ≡ bits_at s (position s p) (4 * n)) where
  -- m bits behind the place, and the others of w
  split : (m r : ℕ) → 4 * n ≡ m + r → w ≡ bits_at s (position s p) (m + r)
  split m r f = e ∙ ap (bits_at s (position s p)) f

  first_of : get_bits s p (pos n) ≡ record { value = w / 2 ^ (3 * n); next = place_at (position s p + n) p.error }
  first_of = first_read s p n (3 * n) w (omega arith) (split n (3 * n) (omega arith)) (omega arith)

  second_of : get_bits s (place_at (position s p + n) p.error) (pos n) ≡ record { value = w / 2 ^ (2 * n) % 2 ^ n; next = place_at (position s p + (n + n)) p.error }
  second_of = last_read s p n n (w / 2 ^ (2 * n)) (omega arith) (first_bits s p (n + n) (2 * n) w (omega arith) (split (n + n) (2 * n) (omega arith))) (omega arith)

  third_of : get_bits s (place_at (position s p + (n + n)) p.error) (pos n) ≡ record { value = w / 2 ^ n % 2 ^ n; next = place_at (position s p + (n + n + n)) p.error }
  third_of = last_read s p (n + n) n (w / 2 ^ n) (omega arith) (first_bits s p (n + n + n) n w (omega arith) (split (n + n + n) n (omega arith))) (omega arith)

  fourth_of : get_bits s (place_at (position s p + (n + n + n)) p.error) (pos n) ≡ record { value = w % 2 ^ n; next = place_at (position s p + 4 * n) p.error }
  fourth_of =
      let f : n + n + n + n ≡ 4 * n = omega arith in
      last_read s p (n + n + n) n w (omega arith) (split (n + n + n) n (omega arith)) (omega arith) ∙ rw f

  four : (i : ℕ) (l : List ℤ) → let h = pos (2 ^ (n - 1)) in
      lent_coeffs (set (set (set (set l i (pos (w / 2 ^ (3 * n)) -ℤ h)) (i + 1) (pos (w / 2 ^ (2 * n) % 2 ^ n) -ℤ h)) (i + 2) (pos (w / 2 ^ n % 2 ^ n) -ℤ h)) (i + 3) (pos (w % 2 ^ n) -ℤ h))
      (place_at (position s p + 4 * n) p.error)
      ≡ coeff s n (i + 3) (coeff s n (i + 2) (coeff s n (i + 1) (coeff s n i (lent_coeffs l p))))
  four i l =
      sym (ap (λ x. coeff s n (i + 3) (coeff s n (i + 2) (coeff s n (i + 1) x))) (put s n i _ l p _ first_of)
      ∙ ap (λ x. coeff s n (i + 3) (coeff s n (i + 2) x)) (put s n (i + 1) _ _ _ _ second_of)
      ∙ ap (coeff s n (i + 3)) (put s n (i + 2) _ _ _ _ third_of)
      ∙ put s n (i + 3) _ _ _ _ fourth_of)

  -- the first is below 2 ^ n too
  first_lt : w / 2 ^ (3 * n) < 2 ^ n
  first_lt = rw (first_bits s p n (3 * n) w (omega arith) (split n (3 * n) (omega arith))) (bits_lt s (position s p) n)

-- half the range
twice : (n : ℕ) → 1 ≤ n → 2 ^ n ≡ 2 * 2 ^ (n - 1)
twice n h =
    let e : n ≡ suc (n - 1) = omega arith in
    let f : 2 ^ n ≡ 2 ^ (n - 1) * 2 = ap (λ (m : ℕ). 2 ^ m) e ∙ pow-suc 2 (n - 1) in
    omega (arith, f)

low : (c : After-power-low) → c.power-low.result ≡ 2 ^ c.args.coef_bits
low c = power_below (omega (arith, c.requires.1)) c.power-low.ensures.0

range : (s : After-power-low) → 2 * s.args.half ≡ 2 ^ s.args.coef_bits
range s = omega (arith, twice s.args.coef_bits s.requires.0, s.requires.2)

-- the rest of a division
rest : (c : After-power-low) (x : ℕ) → x % c.power-low.result < 2 * c.args.half
rest c x = rw (low c) (omega (arith, mod-lt x (pow_pos c.args.coef_bits), range c))

-- a coefficient out of such a rest
centred_rest : (c : After-power-low) (x : ℕ) {r : ℤ} → let a = c.args in
    r ≡ pos (x % c.power-low.result) -ℤ pos a.half → r ≡ pos (x % 2 ^ a.coef_bits) -ℤ pos (2 ^ (a.coef_bits - 1))
centred_rest c x e =
    e ∙ ap (λ (m : ℕ). pos (x % m) -ℤ pos c.args.half) (low c) ∙ ap (λ (h : ℕ). pos (x % 2 ^ c.args.coef_bits) -ℤ pos h) c.requires.2

-- the numbers, read back from their bits
back : (c : After-skip) → to_z w8 (of_z w8 c.centred.result) ≡ c.centred.result
back c = search rules

back_2 : (c : After-skip) → to_z w8 (of_z w8 c.centred-2.result) ≡ c.centred-2.result
back_2 c = search rules

back_3 : (c : After-skip) → to_z w8 (of_z w8 c.centred-3.result) ≡ c.centred-3.result
back_3 c = search rules

back_4 : (c : After-skip) → to_z w8 (of_z w8 c.centred-4.result) ≡ c.centred-4.result
back_4 c = search rules

pub centred_requires : goal.centred_requires
centred_requires c =
    let small_half : c.args.half ≤ 128 = omega (arith, c.requires.2, pow_mono {i = c.args.coef_bits - 1} {j = 7} (omega (arith, c.requires.1))) in
    let all_bits_lem : let a = c.args in c.look_ahead-w.result ≡ bits_at a.s.now (position a.s.now a.p) (4 * a.coef_bits) = look_bits c.args.s.now c.args.p (4 * c.args.coef_bits) (omega (arith, c.requires.1)) c.look_ahead-w.ensures in
    let a = c.args in
    (omega (arith, first_lt a.s.now a.p a.coef_bits c.look_ahead-w.result c.requires.1 c.requires.4 (all_bits_lem), range (goal.at.centred_requires c).After-power-low), small_half)

pub centred_requires_2 : goal.centred_requires_2
centred_requires_2 c =
    let small_half : c.args.half ≤ 128 = omega (arith, c.requires.2, pow_mono {i = c.args.coef_bits - 1} {j = 7} (omega (arith, c.requires.1))) in
    (rest (goal.at.centred_requires_2 c).After-power-low _, small_half)

pub bounds_coeffs_i_2 : goal.bounds_coeffs_i_2
bounds_coeffs_i_2 c = simp length-set (omega (arith, c.requires.3))

pub centred_requires_3 : goal.centred_requires_3
centred_requires_3 c =
    let small_half : c.args.half ≤ 128 = omega (arith, c.requires.2, pow_mono {i = c.args.coef_bits - 1} {j = 7} (omega (arith, c.requires.1))) in
    (rest (goal.at.centred_requires_3 c).After-power-low _, small_half)

pub bounds_coeffs_i_3 : goal.bounds_coeffs_i_3
bounds_coeffs_i_3 c = simp length-set (omega (arith, c.requires.3))

pub centred_requires_4 : goal.centred_requires_4
centred_requires_4 c =
    let small_half : c.args.half ≤ 128 = omega (arith, c.requires.2, pow_mono {i = c.args.coef_bits - 1} {j = 7} (omega (arith, c.requires.1))) in
    (rest (goal.at.centred_requires_4 c).After-power-low _, small_half)

pub bounds_coeffs_i_4 : goal.bounds_coeffs_i_4
bounds_coeffs_i_4 c = simp length-set (omega (arith, c.requires.3))

pub returns : goal.returns
returns c =
    let all_bits_lem : let a = c.args in c.look_ahead-w.result ≡ bits_at a.s.now (position a.s.now a.p) (4 * a.coef_bits) = look_bits c.args.s.now c.args.p (4 * c.args.coef_bits) (omega (arith, c.requires.1)) c.look_ahead-w.ensures in
    let a = c.args in
    let w = c.look_ahead-w.result in
    let v1 = c.centred.ensures ∙ ap (λ (h : ℕ). pos (w / 2 ^ (3 * a.coef_bits)) -ℤ pos h) c.requires.2 in
    let v2 = centred_rest (goal.at.returns c).After-power-low (w / 2 ^ (2 * a.coef_bits)) c.centred-2.ensures in
    let v3 = centred_rest (goal.at.returns c).After-power-low (w / 2 ^ a.coef_bits) c.centred-3.ensures in
    let v4 = centred_rest (goal.at.returns c).After-power-low w c.centred-4.ensures in
    rw (back c ∙ v1, back_2 c ∙ v2, back_3 c ∙ v3, back_4 c ∙ v4, skip_there a.s.now a.p (4 * a.coef_bits) c.requires.4 c.skip.ensures)
    (four a.s.now a.p a.coef_bits w c.requires.1 c.requires.4 (all_bits_lem) a.i a.coeffs.now)
