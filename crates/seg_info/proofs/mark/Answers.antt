use mathlib.Core.Bool.{Bool, true, false}
use mathlib.Core.Path.{◌≡◌, ◌∙◌, ap}
use Prim.Native.Nat.{ℕ, ◌*◌, ◌%◌, ◌^◌, ◌<◌}
use native.Mathlib.Omega.{arith}
use lib.Bits.{bit_or, or_zero_r}
use Rattle.getbits.specs.Chain.{pick}
use Rattle.getbits.proofs.Fields.{shl_one}
use Rattle.seg_info.specs.Seg.{marked}
use Rattle.seg_info.proofs.mark.Goals as goal

-- the flag's bit in place n
placed : (flag : Bool) (n mask b : ℕ) → n < 16 → b ≡ pick flag 1 0 → bit_or mask (b * 2 ^ n % 2 ^ 16) ≡ marked flag n mask
placed true n mask b h e = ap (λ (x : ℕ). bit_or mask (x * 2 ^ n % 2 ^ 16)) e ∙ ap (bit_or mask) (shl_one n 16 h)
placed false n mask b h e = let none : b * 2 ^ n % 2 ^ 16 ≡ 0 = rw e (omega arith) in ap (bit_or mask) none ∙ or_zero_r mask

pub returns : goal.returns
returns c = let a = c.args in placed a.flag a.n a.mask c.bit.result c.requires c.bit.ensures
