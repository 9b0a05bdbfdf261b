use borrow.Author.Tests.{lt-ltb, le-ltb, eq-eqb, ne_eqb}
use Rattle.codes.proofs.intops.inv_recenter.Goals as goal

pub returns-then-r-v : goal.returns-then-r-v
returns-then-r-v c = simp (lt-ltb _ _ c.if-r-v.true)

pub returns-then-v-eq0 : goal.returns-then-v-eq0
returns-then-v-eq0 c = simp (le-ltb _ _ c.if-r-v.false, eq-eqb _ _ c.if-v-eq0.true)

pub returns : goal.returns
returns c = simp (le-ltb _ _ c.if-r-v.false, ne_eqb _ _ c.if-v-eq0.false)
