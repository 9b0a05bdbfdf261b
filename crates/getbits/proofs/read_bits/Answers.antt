use mathlib.Core.Path.{◌∙◌}
use Prim.Native.Nat.{◌-◌, ◌<◌, ◌≤◌}
use native.Mathlib.Omega.{arith}
use lib.ListN.{length}
use Rattle.getbits.proofs.Callers.{width_in}
use Rattle.getbits.proofs.Places.{settled_in, read_at}
use Rattle.getbits.proofs.read_bits.Goals as goal

pub overflow_sub_s : goal.overflow_sub_s
overflow_sub_s t =
    let four : 4 ≤ length t.args.s.now = t.if-s-ge4.true in
    four

pub overflow_add_stop : goal.overflow_add_stop
overflow_add_stop t =
    let four : 4 ≤ length t.args.s.now = t.if-s-ge4.true in
    let known : (let a = t.args in (a.p.used < 8) × (4 ≤ length a.s.now) × (a.p.byte ≤ length a.s.now - 4)) = let a = t.args in
    (t.if-used-lt8.true, four, t.if-byte-s.true) in
    omega (arith, (known).0)

pub narrow_requires : goal.narrow_requires
narrow_requires t =
    let four : 4 ≤ length t.args.s.now = t.if-s-ge4.true in
    let known : (let a = t.args in (a.p.used < 8) × (4 ≤ length a.s.now) × (a.p.byte ≤ length a.s.now - 4)) = let a = t.args in
    (t.if-used-lt8.true, four, t.if-byte-s.true) in
    (omega (arith, (known).1, (known).2), (known).0, omega arith)

pub overflow_add_result : goal.overflow_add_result
overflow_add_result c =
    let four : 4 ≤ length c.args.s.now = c.if-s-ge4.true in
    let known : (let a = c.args in (a.p.used < 8) × (4 ≤ length a.s.now) × (a.p.byte ≤ length a.s.now - 4)) = let a = c.args in
    (c.if-used-lt8.true, four, c.if-byte-s.true) in
    omega (arith, (known).0, (known).1, (known).2)

pub returns-then-byte-s : goal.returns-then-byte-s
returns-then-byte-s c =
    let four : 4 ≤ length c.args.s.now = c.if-s-ge4.true in
    let known : (let a = c.args in (a.p.used < 8) × (4 ≤ length a.s.now) × (a.p.byte ≤ length a.s.now - 4)) = let a = c.args in
    (c.if-used-lt8.true, four, c.if-byte-s.true) in
    let a = c.args in
    let k = known in
    read_at a.s.now a.p a.p a.n (settled_in a.s.now a.p (omega (arith, k.1, k.2)) k.0) (omega (arith, k.0, k.1, k.2)) c.narrow.ensures
    ∙ width_in a.s.now a.p a.n (omega arith)
