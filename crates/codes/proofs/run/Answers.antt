use mathlib.Core.Path.{ap, ◌∙◌}
use Prim.Native.Nat.{ℕ, ◌+◌, min}
use native.Mathlib.Omega.{arith}
use lib.Count.{count_leading_zeros}
use Rattle.getbits.proofs.Callers.{as_read}
use Rattle.codes.specs.Codes.{run_of}
use Rattle.codes.proofs.Runs.{run_word}
use Rattle.codes.proofs.run.Goals as goal

pub returns-then-most-eq0 : goal.returns-then-most-eq0
unfolding run_of
returns-then-most-eq0 c = rw c.if-most-eq0.true

pub returns : goal.returns
returns c =
    let a = c.args in
    let n = c.min-n.result in
    run_word a.bit a.most a.s.now a.p (omega arith) (omega arith) (omega arith) c.look-w.ensures
    (c.min-n.ensures ∙ ap (λ (x : ℕ). min (count_leading_zeros 32 x) a.most) c.as_zeros.ensures)
    (as_read a.s.now a.p (min (n + 1) a.most) (omega arith) (rw c.min.ensures at c.read_wide-r.ensures))
