use mathlib.Core.List.{List, append-nil}
use mathlib.Core.Path.{◌≡◌}
use Prim.Native.Nat.{ℕ, ◌≤◌}
use native.Mathlib.Omega.{arith}
use borrow.Author.Tests.{lt-ltb, le-ltb}
use Rattle.layout_bits.specs.Bits.{ones_code}
use Rattle.layout_row.specs.Inner.{Appended}
use Rattle.layout_row.proofs.Append.{nothing, both, ones, ones_length, ones_more}
use Rattle.layout_row.proofs.put_ones.Goals as goal

-- all of them
all_ones : {n i at end : ℕ} {before after : List ℕ} → n ≤ i → i ≤ n → Appended before at (ones i) after end → Appended before at (ones n) after end
all_ones {n} {i} h k v =
    let e : i ≡ n = omega arith in
    rw e at v

pub loop-i-init : goal.loop-i-init
loop-i-init c = nothing c.args.row.now c.args.at

pub put_bit-end-requires : goal.put_bit-end-requires
put_bit-end-requires c = (omega (arith, c.loop-i.invariant.ends, ones_length c.loop-i._i, c.ranges.n), omega arith)

pub loop-i-preserved : goal.loop-i-preserved
loop-i-preserved c =
    rw (ones_more c.loop-i._i) (both c.loop-i.invariant c.put_bit-end.ensures)

pub put_bit-requires : goal.put_bit-requires
put_bit-requires c = (omega (arith, c.loop-i.invariant.ends, ones_length c.loop-i._i, c.ranges.n), omega arith)

pub returns-then-n-most : goal.returns-then-n-most
unfolding ones_code
returns-then-n-most c =
    let a = c.args in
    let all = all_ones c.loop-i-test.false (omega arith) c.loop-i.invariant in (
      rw (lt-ltb a.n a.most c.if-n-most.true) (both all c.put_bit.ensures),
      omega (arith, all.ends, ones_length a.n, c.put_bit.ensures.ends, c.ranges.n),
    )

pub returns : goal.returns
unfolding ones_code
returns c =
    let a = c.args in
    let all = all_ones c.loop-i-test.false (omega arith) c.loop-i.invariant in
    (rw (le-ltb a.n a.most c.if-n-most.false, append-nil (ones a.n)) all, omega (arith, all.ends, ones_length a.n, c.ranges.n))
