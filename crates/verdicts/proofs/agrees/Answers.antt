use mathlib.Core.Path.{sym, ◌∙◌}
use native.Mathlib.Omega.{arith}
use borrow.Author.Rules.{rules}
use lib.Seq.{length-take-le}
use Rattle.verdicts.proofs.Rows.{enough, few_stored, few_ours}
use Rattle.verdicts.proofs.agrees.Goals as goal

pub slice_bounds_all_same_end : goal.slice_bounds_all_same_end
slice_bounds_all_same_end c = sym (length-take-le _ _ (search rules))

pub slice_bounds_all_same_end_then_m_stored : goal.slice_bounds_all_same_end_then_m_stored
slice_bounds_all_same_end_then_m_stored c = sym (length-take-le _ _ (search rules))

pub returns-then-m-stored : goal.returns-then-m-stored
returns-then-m-stored c =
    let a = c.args in
    c.all_same.ensures.equation ∙ enough a.ours.now a.n a.stored.now a.m (omega arith) (omega arith)

pub returns-else-m-stored : goal.returns-else-m-stored
returns-else-m-stored c =
    let a = c.args in
    few_stored a.ours.now a.n a.stored.now a.m (omega arith) (omega arith)

pub returns-else-n-ours : goal.returns-else-n-ours
returns-else-n-ours c =
    let a = c.args in
    few_ours a.ours.now a.n a.stored.now a.m (omega arith)
