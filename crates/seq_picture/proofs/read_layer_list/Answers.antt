use mathlib.Core.Path.{◌≡◌, refl, sym, ap, ◌∙◌}
use Prim.Native.Nat.{◌+◌, ◌-◌}
use native.Mathlib.Omega.{arith}
use Rattle.getbits.specs.Chain.{turns}
use Rattle.getbits.proofs.Chain.{through, turns_more}
use Rattle.seq_picture.specs.Picture.{layer, read_layer_list}
use Rattle.seq_picture.proofs.read_layer_list.Goals as goal

pub loop-n-init : goal.loop-n-init
unfolding turns
loop-n-init c = (omega arith, omega arith, refl)

pub loop-n-preserved : goal.loop-n-preserved
loop-n-preserved c =
    let n = c.loop-n.n in
    let e : n + 1 - 1 ≡ n - 1 + 1 = omega arith in
    let k : n - 1 + 1 ≡ n = omega arith in
    (omega arith, omega arith, rw (e, turns_more, k, c.read_layer-r.ensures) (ap (layer _ _ _) c.loop-n.invariant.2))

pub returns : goal.returns
unfolding read_layer_list
returns c =
    let e : c.loop-n.n - 1 ≡ c.args.max - 1 = omega arith in
    rw e at c.loop-n.invariant.2 ∙ sym (through _ _ c.flag_if-sent.ensures)
