-- A flag, out of the word of 32 bits that was looked at. Assumes nothing.
use mathlib.Core.Bool.{true, false}
use mathlib.Core.List.{List}
use mathlib.Core.Path.{◌≡◌, sym, ◌∙◌, ap}
use Prim.Native.Nat.{ℕ, ◌+◌, ◌*◌, ◌%◌, ◌^◌, ◌≤◌, ◌<◌}
use native.Mathlib.Omega.{arith}
use borrow.Author.Tests.{eq-eqb, ne_eqb}
use Rattle.codes.proofs.Word.{bit_behind, is_one, is_zero}
use Rattle.getbits.specs.Bits.{bit_at, bits_at, position, read_bits, look_at, get_bit, get_flag}
use Rattle.getbits.specs.declared.Read.{Read}
use Rattle.getbits.specs.declared.Place.{Place}
use Rattle.getbits.proofs.Callers.{read_none, read_settled}
use Rattle.getbits.proofs.Fields.{bits_lt}

-- a flag, by the word
module _ (s : List ℕ) (p : Place) (word : ℕ) (w : word ≡ look_at s p 32) where
  looked : word ≡ bits_at s (position s p) 32
  unfolding look_at
  looked = w

  whole : word * 2 ^ 0 % 4294967296 ≡ word
  whole = omega (arith, looked, bits_lt s (position s p) 32)

  first_bit : (get_bit s p).value ≡ bit_at s (position s p + 0)
  unfolding get_bit
  first_bit = ap (λ (r : Read ℕ). r.value) (sym (read_settled s p 1) ∙ ap (λ (r : Read ℕ). read_bits s r.next 1) (sym (read_none s p)) ∙ bit_behind s p 0)

  pub flag_set : 2147483648 ≤ word → (get_flag s p).value ≡ true
  unfolding get_flag
  flag_set h = eq-eqb (get_bit s p).value 1 (first_bit ∙ is_one s (position s p) word looked 0 (omega arith) (omega (arith, whole)))

  pub flag_unset : word < 2147483648 → (get_flag s p).value ≡ false
  unfolding get_flag
  flag_unset h = ne_eqb (get_bit s p).value 1 (λ e. omega (arith, e, first_bit, is_zero s (position s p) word looked 0 (omega arith) (omega (arith, whole))))
