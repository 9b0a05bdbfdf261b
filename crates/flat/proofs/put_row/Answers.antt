use Rattle.std.proofs.Common.{sym, ap, ◌∙◌, map, length}
use lib.ListN.{length-map, get_or-map}
use Rattle.flat.proofs.Rows.{begun, turned, copied}
use Rattle.flat.proofs.put_row.Goals as goal

pub loop-i-init : goal.loop-i-init
loop-i-init g c = λ f h. begun _ _ _

pub loop-i-preserved : goal.loop-i-preserved
loop-i-preserved g c = λ f h.
    let xs = c.args.xs.now in
    let x = c.index-xs-i in
    let i = c.loop-i.i in
    turned _ _ (map f xs) (rw (length-map xs f) c.requires) _ i _ (f x.result) (rw (length-map xs f) c.loop-i-test.true)
    (h x.result c.from.result c.from.ensures ∙ ap f x.is ∙ sym (get_or-map f xs i x.result)) (c.loop-i.invariant f h)

pub returns-clause-row : goal.returns-clause-row
returns-clause-row g c = λ f h.
    let xs = c.args.xs.now in
    copied _ _ (map f xs) _ _ (length xs) (length-map xs f) c.loop-i-test.false (c.loop-i.invariant f h)
