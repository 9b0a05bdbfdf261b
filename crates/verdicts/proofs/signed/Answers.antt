use mathlib.Core.Logic.{⊎_elim}
use mathlib.Core.Path.{◌≡◌, ap, ◌∙◌}
use Prim.Native.Nat.{ℕ, ◌^◌, ◌<◌}
use native.Mathlib.Omega.{arith}
use borrow.Author.Tests.{le-ltb}
use lib.IntN.{negsuc}
use mir.Syntax.{w32}
use mir.Val.{to_z}
use mir.ValLaws.{to_z_pos}
use Rattle.getbits.specs.Bits.{signed_of}
use Rattle.getbits.proofs.Places.{lt_or_le}
use Rattle.getbits.proofs.Widths.{back, sign_below, sign_above}
use Rattle.verdicts.proofs.signed.Goals as goal

-- what a number's 32 bits mean
meant : (n : ℕ) → n < 2 ^ 32 → to_z w32 n ≡ signed_of 32 n
meant n f =
    ⊎_elim (λ h. to_z_pos w32 n h ∙ sign_below 32 n (omega arith))
    (λ h. rw (le-ltb n 2147483648 h) (ap negsuc (omega arith) ∙ sign_above 32 n (omega arith) (omega arith)))
    (lt_or_le n 2147483648)

pub returns : goal.returns
returns c = back c.cast_signed.result c.cast_signed.type_inv ∙ c.cast_signed.ensures ∙ meant c.args.n (omega arith)
