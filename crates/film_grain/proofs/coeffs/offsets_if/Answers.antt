use mathlib.Core.List.{List}
use mathlib.Core.Path.{◌≡◌, refl, sym, ◌∙◌}
use Prim.Native.Nat.{ℕ, ◌+◌, ◌/◌, ◌%◌, ◌^◌, ◌≤◌}
use native.Mathlib.Omega.{arith}
use borrow.Author.Rules.{rules}
use lib.IntN.{pos, ◌-ℤ◌}
use mir.Syntax.{w16}
use mir.Val.{to_z, of_z}
use Rattle.getbits.specs.Bits.{bits_at, bit_count, position, place_at}
use Rattle.getbits.specs.declared.Place.{Place}
use Rattle.getbits.proofs.Chain.{through}
use Rattle.getbits.proofs.Fields.{bits_lt}
use Rattle.getbits.proofs.Parts.{more_there, look_bits, skip_there, first_bits, first_read, last_read}
use Rattle.film_grain.specs.Coeffs.{bits_less, offsets_if}
use Rattle.film_grain.proofs.Numbers.{less_read}
use Rattle.film_grain.proofs.coeffs.offsets_if.Goals as goal

-- the three numbers, side by side
module _ (s : List ℕ) (p : Place) (w : ℕ) (room : position s p + 25 ≤ bit_count s) (e : w ≡ bits_at s (position s p) 25) where
  mult : record { value = pos (w / 2 ^ 17) -ℤ pos 128; next = place_at (position s p + 8) p.error } ≡ bits_less s p 8 128
  mult = sym (less_read s p 8 128 (first_read s p 8 17 w room e (omega arith)))

  luma_mult : record { value = pos (w / 2 ^ 9 % 256) -ℤ pos 128; next = place_at (position s p + 16) p.error } ≡ bits_less s (place_at (position s p + 8) p.error) 8 128
  luma_mult = sym (less_read s _ 8 128 (last_read s p 8 8 (w / 2 ^ 9) (omega arith) (first_bits s p 16 9 w room e) (omega arith)))

  offset : record { value = pos (w % 512) -ℤ pos 256; next = place_at (position s p + 25) p.error } ≡ bits_less s (place_at (position s p + 16) p.error) 9 256
  offset = sym (less_read s _ 9 256 (last_read s p 16 9 w room e (omega arith)))

room : (c : goal.After-skip) → let a = c.args in position a.s.now a.p + 25 ≤ bit_count a.s.now
room c = let a = c.args in more_there a.s.now a.p 25 c.more_than.ensures c.if-more_than.true

-- the numbers, read back from their bits
back : (c : goal.After-skip) → to_z w16 (of_z w16 c.minus.result) ≡ c.minus.result
back c = search rules

back_2 : (c : goal.After-skip) → to_z w16 (of_z w16 c.minus-then-more_than.result) ≡ c.minus-then-more_than.result
back_2 c = search rules

back_3 : (c : goal.After-skip) → to_z w16 (of_z w16 c.minus-then-more_than-2.result) ≡ c.minus-then-more_than-2.result
back_3 c = search rules

back_4 : (c : goal.After-struct_told-then-cond-2-1) → to_z w16 (of_z w16 c.bits_less-mult.result.value) ≡ c.bits_less-mult.result.value
back_4 c = search rules

back_5 : (c : goal.After-struct_told-then-cond-2-1) → to_z w16 (of_z w16 c.bits_less-luma_mult.result.value) ≡ c.bits_less-luma_mult.result.value
back_5 c = search rules

back_6 : (c : goal.After-struct_told-then-cond-2-1) → to_z w16 (of_z w16 c.bits_less-offset.result.value) ≡ c.bits_less-offset.result.value
back_6 c = search rules

pub minus_requires : goal.minus_requires
minus_requires c =
    let all_bits_lem : let a = c.args in c.look_ahead-w.result ≡ bits_at a.s.now (position a.s.now a.p) 25 = let a = c.args in look_bits a.s.now a.p 25 (omega arith) c.look_ahead-w.ensures in
    let a = c.args in (omega (arith, all_bits_lem, bits_lt a.s.now (position a.s.now a.p) 25), omega arith)

pub returns-then-more_than : goal.returns-then-more_than
unfolding offsets_if
returns-then-more_than c =
    let all_bits_lem : let a = c.args in c.look_ahead-w.result ≡ bits_at a.s.now (position a.s.now a.p) 25 = let a = c.args in look_bits a.s.now a.p 25 (omega arith) c.look_ahead-w.ensures in
    let a = c.args in
    let w = c.look_ahead-w.result in
    rw (c.if-cond.true, back c, back_2 c, back_3 c, c.minus.ensures, c.minus-then-more_than.ensures, c.minus-then-more_than-2.ensures, skip_there a.s.now a.p 25 (room c) c.skip.ensures)
    (sym (through _ _ (mult a.s.now a.p w (room c) (all_bits_lem))
    ∙ through _ _ (luma_mult a.s.now a.p w (room c) (all_bits_lem))
    ∙ through _ _ (offset a.s.now a.p w (room c) (all_bits_lem))))

pub returns-then-cond : goal.returns-then-cond
unfolding offsets_if
returns-then-cond c =
    rw c.if-cond.true
    (sym (through _ _ c.bits_less-mult.ensures
    ∙ through _ _ c.bits_less-luma_mult.ensures
    ∙ through _ _ c.bits_less-offset.ensures
    ∙ sym (simp (back_4 c, back_5 c, back_6 c))))

pub returns : goal.returns
unfolding offsets_if
returns c = rw c.if-cond.false refl
