use mathlib.Core.Path.{◌≡◌, sym, ap, ◌∙◌}
use Prim.Native.Nat.{ℕ, ◌+◌, ◌-◌, ◌<◌}
use native.Mathlib.Omega.{arith}
use lib.Dec.{leb}
use lib.ListN.{take, drop, get_or}
use lib.Seq.{get_or-take}
use Rattle.std.proofs.lemmas.Grind.{get_or_after_one}
use Rattle.std.proofs.lemmas.List.{length-take, length-drop}
use Rattle.frame_layout.proofs.Usable.{low_more}
use Rattle.frame_layout.specs.Frame.{starts_low}
use Rattle.frame_hdr.proofs.domain.starts_low.Goals as goal

pub loop-start-init : goal.loop-start-init
unfolding starts_low
loop-start-init c = ap (λ (x : ℕ). leb x 1024) (sym (get_or-take 65 c.args.starts.now 0 0 (omega arith)))

pub loop-start-preserved : goal.loop-start-preserved
loop-start-preserved c =
    let starts = c.args.starts.now in
    let i = c.loop-start.start-index in
    let inside : i < c.args.n = omega (arith, length-take (c.args.n + 1 - 1) (drop 1 starts), c.loop-start-test.true) in
    let here : get_or (take (c.args.n + 1 - 1) (drop 1 starts)) i 0 ≡ get_or starts (i + 1) 0 = get_or-take (c.args.n + 1 - 1) (drop 1 starts) i 0 (omega arith) ∙ get_or_after_one starts i 0 ∙ ap (λ (k : ℕ). get_or starts k 0) (omega arith) in
    low_more (take 65 starts) i c.loop-start.invariant (here ∙ sym (get_or-take 65 starts (i + 1) 0 (omega (arith, c.requires.0))))

pub returns : goal.returns
returns c =
    let starts = c.args.starts.now in
    let e : c.loop-start.start-index ≡ c.args.n =
    omega (arith, length-take (c.args.n + 1 - 1) (drop 1 starts), length-drop 1 starts, c.requires.0, c.requires.1, c.loop-start-test.false, c.loop-start.auto) in
    c.loop-start.invariant ∙ ap (starts_low _) e
