use Rattle.std.proofs.Common.{ℕ, ◌*◌, ◌^◌, ap, ◌∙◌, arith, pow-add}
use Rattle.superblocks.proofs.sbsz_log2.Goals as goal

pub returns : goal.returns
returns c =
    let e = c.from.ensures ∙ c.min.ensures in
    (pow-add 2 6 _ ∙ ap (λ (k : ℕ). 64 * 2 ^ k) e, omega arith, omega (arith, e))
