use native.Mathlib.Omega.{arith}
use mathlib.Core.Path.{◌∙◌}
use Rattle.verdicts.proofs.Rows.{other_count, one_by_one, told}
use Rattle.verdicts.proofs.all_same.Goals as goal

pub returns-then-ours-stored : goal.returns-then-ours-stored
returns-then-ours-stored c =
    let a = c.args in
    let e = other_count a.ours.now a.stored.now c.if-ours-stored.true in
    record { equation = e; tells = told a.ours.now a.stored.now _ e }

pub returns : goal.returns
returns c =
    let a = c.args in
    let e = c.each_stands.ensures ∙ one_by_one a.ours.now a.stored.now (omega arith) in
    record { equation = e; tells = told a.ours.now a.stored.now _ e }
