use Rattle.std.proofs.Common.{ℕ, ◌*◌, ◌/◌, ap, ◌∙◌}
use native.Mathlib.Nat.{div-div-eq-div-mul}
use Rattle.superblocks.proofs.Pair.area_limit.Goals as goal

pub returns : goal.returns
returns c =
    let n = c.args.n in
    div-div-eq-div-mul n _ _ ∙ ap (λ (x : ℕ). n / (x * x)) c.sbsz_log2-log2.ensures.0
