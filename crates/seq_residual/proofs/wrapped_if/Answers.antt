use Rattle.std.proofs.Common.{◌≡◌, ◌+◌, ◌-◌, ◌%◌, sym, ◌∙◌, arith}
use Rattle.getbits.proofs.Chain.{through}
use Rattle.seq_residual.specs.Residual.{wrapped_if}
use Rattle.seq_residual.proofs.wrapped_if.Goals as goal

pub returns-then-sent : goal.returns-then-sent
unfolding wrapped_if
returns-then-sent c =
    let n = c.small_if-n in
    let e : c.wrapping_sub_u8.result ≡ (n.result.value + 256 - 23) % 256 = omega (arith, n.ensures.below) in
    sym (through _ _ n.ensures.is ∙ rw (c.if-sent.true, ← e))

pub returns : goal.returns
unfolding wrapped_if
returns c = sym (through _ _ c.small_if-n.ensures.is ∙ rw c.if-sent.false)
