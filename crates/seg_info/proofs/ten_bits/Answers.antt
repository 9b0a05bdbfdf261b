use mathlib.Core.Logic.{⊎_elim}
use mathlib.Core.Path.{◌≡◌, sym, ap, ◌∙◌}
use Prim.Native.Nat.{ℕ, ◌+◌, ◌-◌, ◌%◌}
use native.Mathlib.Omega.{arith}
use borrow.Author.Tests.{le-ltb}
use lib.IntN.{pos, negsuc, ◌-ℤ◌}
use mir.Syntax.{w32}
use mir.Val.{SFits}
use mir.ValLaws.{to_z_pos, to_z-of_z}
use Rattle.getbits.specs.Bits.{signed_of}
use Rattle.getbits.proofs.Places.{lt_or_le}
use Rattle.getbits.proofs.Widths.{difference, less, sign_below, sign_above}
use Rattle.seg_info.proofs.ten_bits.Goals as goal

-- half the range is added, what is over is dropped, and half the range is taken off
signed : (v : ℕ) → pos ((v + 512) % 1024) -ℤ pos 512 ≡ signed_of 10 (v % 1024)
signed v =
    let y : ℕ = (v + 512) % 1024 in
    ⊎_elim
    (λ low.
    let e : y - 512 ≡ v % 1024 = omega arith in
    rw (le-ltb y 512 (omega arith)) (ap pos e) ∙ sign_below 10 (v % 1024) (omega arith))
    (λ high.
    let e : 512 - 1 - y ≡ 1024 - 1 - v % 1024 = omega arith in
    sym (less y 512 (omega arith)) ∙ ap negsuc e ∙ sign_above 10 (v % 1024) (omega arith) (omega arith))
    (lt_or_le (v % 1024) 512)

fits : (s : goal.Start) → SFits w32 (pos ((s.args.v + 512) % 1024) -ℤ pos 512)
fits s = record { sfits = omega (arith, difference ((s.args.v + 512) % 1024) 512 512 (omega arith) (omega arith) (omega arith)) }

pub overflow_sub_result : goal.overflow_sub_result
overflow_sub_result c = rw (to_z_pos w32 ((c.args.v + 512) % 1024) (omega arith)) (fits c)

pub returns : goal.returns
returns c = rw (to_z_pos w32 ((c.args.v + 512) % 1024) (omega arith), to_z-of_z w32 _ (fits c)) (signed c.args.v)
