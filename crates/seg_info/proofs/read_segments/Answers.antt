use mathlib.Core.Path.{◌≡◌, refl, sym, ap, ◌∙◌}
use Prim.Native.Nat.{ℕ, ◌+◌, ◌≤◌}
use native.Mathlib.Omega.{arith}
use borrow.Author.Tests.{leb-true}
use lib.Dec.{leb}
use Rattle.getbits.specs.Bits.{bit_count, position}
use Rattle.getbits.specs.Chain.{turns}
use Rattle.getbits.proofs.Chain.{both, turns_more}
use Rattle.getbits.proofs.Parts.{more_there}
use Rattle.seg_info.specs.Inner.{lent_read}
use Rattle.seg_info.specs.Seg.{segment}
use Rattle.getbits.specs.declared.Read.{Read}
use Rattle.seg_info.specs.declared.SegmentationDataSet.{SegmentationDataSet}
use Rattle.seg_info.proofs.read_segments.Goals as goal
use Rattle.seg_info.proofs.read_segments.Goals.{Then-i-n}

-- both questions, where they hold
two_left : (c : Then-i-n) → let a = c.args in
    (c.loop-i.i + 2 ≤ a.n) × (position a.s.now c.loop-i.a.next + 56 ≤ bit_count a.s.now)
two_left c =
    let a = c.args in
    let t = both (leb (c.loop-i.i + 2) a.n) c.more_than.result c.if-i-n.true in
    (leb-true (c.loop-i.i + 2) a.n t.0, more_there a.s.now c.loop-i.a.next 56 c.more_than.ensures t.1)

-- two turns more
two_more : (n : ℕ) (f : ℕ → Read SegmentationDataSet → Read SegmentationDataSet) (a : Read SegmentationDataSet) → turns (n + 2) f a ≡ f (n + 1) (f n (turns n f a))
two_more n f a =
    let e : n + 2 ≡ n + 1 + 1 = omega arith in
    ap (λ (m : ℕ). turns m f a) e ∙ turns_more (n + 1) f a ∙ ap (f (n + 1)) (turns_more n f a)

pub loop-i-init : goal.loop-i-init
unfolding turns
loop-i-init c = (omega arith, c.requires.1, refl)

pub two_segments-a-requires : goal.two_segments-a-requires
two_segments-a-requires c =
    let t = two_left (goal.at.two_segments-a-requires c).Then-i-n in
    (omega (arith, t.0, c.requires.0), c.loop-i.invariant.1, omega (arith, t.1))

pub overflow_add-i-then-i-n : goal.overflow_add-i-then-i-n
overflow_add-i-then-i-n c = omega (arith, (two_left (goal.at.overflow_add-i-then-i-n c).Then-i-n).0, c.requires.0)

pub loop-i-smaller-then-i-n : goal.loop-i-smaller-then-i-n
loop-i-smaller-then-i-n c = omega (arith, (two_left (goal.at.loop-i-smaller-then-i-n c).Then-i-n).0)

pub loop-i-preserved-then-i-n : goal.loop-i-preserved-then-i-n
loop-i-preserved-then-i-n c =
    let f = segment c.args.s.now in
    let i = c.loop-i.i in (
      (two_left (goal.at.loop-i-preserved-then-i-n c).Then-i-n).0,
      omega (arith, c.loop-i.invariant.1),
      c.two_segments-a.ensures ∙ ap (λ (x : Read SegmentationDataSet). f (i + 1) (f i x)) c.loop-i.invariant.2 ∙ sym (two_more i f _),
    )

pub read_segment-a-requires : goal.read_segment-a-requires
read_segment-a-requires c =
    (omega (arith, c.requires.0), c.loop-i.invariant.1)

pub loop-i-preserved : goal.loop-i-preserved
loop-i-preserved c =
    let f = segment c.args.s.now in
    let i = c.loop-i.i in (
      omega arith,
      omega (arith, c.loop-i.invariant.1),
      c.read_segment-a.ensures ∙ ap (f i) c.loop-i.invariant.2 ∙ sym (turns_more i f _),
    )

pub returns : goal.returns
returns c =
    let a = c.args in
    let e : c.loop-i.i ≡ a.n = omega arith in
    c.loop-i.invariant.2 ∙ ap (λ (m : ℕ). turns m (segment a.s.now) (lent_read a.delta_q.now a.r)) e

pub loop-i-smaller : goal.loop-i-smaller
loop-i-smaller c = omega arith
