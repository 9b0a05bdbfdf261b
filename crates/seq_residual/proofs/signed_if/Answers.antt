use Rattle.std.proofs.Common.{◌≡◌, ℕ, ◌^◌, ◌<◌, Bool, true, false, ltb, pos, ◌-ℤ◌, sym, refl, ◌∙◌, arith, w8, SFits}
use mir.ValLaws.{to_z_pos, to_z-of_z}
use Rattle.getbits.proofs.Chain.{through}
use Rattle.seq_residual.specs.Residual.{signed_if}
use Rattle.seq_residual.proofs.signed_if.Goals as goal

-- five bits less 23 are a signed byte
fits : (x : ℕ) → x < 32 → (t : Bool) → ltb x 23 ≡ t → SFits w8 (pos x -ℤ pos 23)
fits x h true e = record { sfits = simp e (omega arith) }
fits x h false e = record { sfits = simp e (omega arith) }

pub overflow_sub_result : goal.overflow_sub_result
overflow_sub_result c =
    let b = c.small_if-n.ensures.below in
    let h : c.small_if-n.result.value < 2 ^ 7 = omega (arith, b) in
    rw (to_z_pos w8 _ h) (fits _ b _ refl)

pub returns-then-sent : goal.returns-then-sent
unfolding signed_if
returns-then-sent c =
    let n = c.small_if-n in
    let h : n.result.value < 2 ^ 7 = omega (arith, n.ensures.below) in
    rw (to_z_pos w8 _ h, to_z-of_z w8 _ (fits _ n.ensures.below _ refl))
    (sym (through _ _ n.ensures.is ∙ rw c.if-sent.true))

pub returns : goal.returns
unfolding signed_if
returns c = sym (through _ _ c.small_if-n.ensures.is ∙ rw c.if-sent.false)
