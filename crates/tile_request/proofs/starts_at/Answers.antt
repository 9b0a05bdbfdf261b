use mathlib.Core.List.{List, [], append-nil}
use mathlib.Core.Path.{◌≡◌, sym, ◌∙◌, ap}
use Prim.Native.Nat.{ℕ, ◌+◌}
use native.Mathlib.Omega.{arith}
use borrow.Author.Rules.{rules}
use lib.ListN.{set}
use Rattle.tile_layout.specs.Layout.{tabulate, padded}
use Rattle.tile_layout.proofs.Laws.{length_tabulate, stored}
use Rattle.tile_request.specs.Layout.{starts_at}
use Rattle.tile_request.proofs.starts_at.Invariants.{start}
use Rattle.tile_request.proofs.starts_at.Goals as goal

pub loop-k-init : goal.loop-k-init
unfolding tabulate
loop-k-init c = search rules

pub loop-k-preserved : goal.loop-k-preserved
loop-k-preserved c =
    let a = c.args in
    let f = start a.s.now a.i in
    let k = c.loop-k.k in
    let v = c.two_at.result in
    ap (λ (t : List ℕ). set t k v) (c.loop-k.invariant ∙ sym (append-nil (padded (tabulate f 0 k))))
    ∙ stored f [] k v c.two_at.ensures.0 (search rules)
    ∙ append-nil (padded (tabulate f 0 (k + 1)))

pub returns : goal.returns
unfolding starts_at
returns c =
    let f = start c.args.s.now c.args.i in
    let done : c.loop-k.k ≡ 65 = omega arith in
    rw (c.loop-k.invariant, done, length_tabulate f 0 65) (append-nil (tabulate f 0 65))
