use mathlib.Core.Bool.{true}
use mathlib.Core.Path.{refl}
use native.Mathlib.Omega.{arith}
use Rattle.verdicts.specs.declared.Count.{Count}
use Rattle.verdicts.proofs.Counts.{more_if, none_if}
use Rattle.verdicts.proofs.counted.Goals as goal

pub returns-then-v-lt21 : goal.returns-then-v-lt21
returns-then-v-lt21 c =
    let a = c.args in
    let more = c.one_more.ensures in
    record {
      replayed = more_if (λ (n : Count). n.replayed) a.t.counts a.v.kind _ _ refl true more.replayed.0 more.replayed.1;
      agree = more_if (λ (n : Count). n.agree) a.t.counts a.v.kind _ _ refl a.v.agrees more.agree.0 more.agree.1;
    }

pub returns-else-v-lt21 : goal.returns-else-v-lt21
returns-else-v-lt21 c =
    let a = c.args in
    record {
      replayed = none_if (λ (n : Count). n.replayed) a.t.counts a.v.kind (record { replayed = 0; agree = 0 }) (record { replayed = 0; agree = 0 }) refl true (omega arith);
      agree = none_if (λ (n : Count). n.agree) a.t.counts a.v.kind (record { replayed = 0; agree = 0 }) (record { replayed = 0; agree = 0 }) refl a.v.agrees (omega arith);
    }
