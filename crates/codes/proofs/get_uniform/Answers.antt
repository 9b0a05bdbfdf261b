use Rattle.std.proofs.Common.{ℕ}
use mathlib.Core.Path.{◌≡◌, refl, ◌∙◌, ap}
use Prim.Native.Nat.{◌+◌, ◌*◌, ◌≤◌, ◌<◌}
use native.Mathlib.Omega.{arith}
use borrow.Author.Tests.{leb-true, ltb-true}
use lib.Dec.{leb, ltb}
use lib.ListN.{length}
use Rattle.codes.specs.Codes.{get_uniform}
use Rattle.getbits.specs.Bits.{bits_at, bit_count, position, read_bits}
use Rattle.getbits.specs.declared.Read.{Read}
use Rattle.getbits.proofs.Chain.{both}
use Rattle.getbits.proofs.Places.{settled_in, read_at}
use Rattle.codes.proofs.Callers.{eight_there}
use Rattle.codes.proofs.get_uniform.Goals as goal
use Rattle.codes.proofs.get_uniform.Goals.{After-uniform_of-u}

-- the word holds the number
module _ (u : After-uniform_of-u) where
  there : (u.args.p.used < 8) × (u.args.p.byte + 8 ≤ length u.args.s.now) × (position u.args.s.now u.args.p + 32 ≤ bit_count u.args.s.now)
  there = eight_there u.args.s.now u.args.p u.eight_left.ensures u.if-eight_left.true

  read : let z = get_uniform u.args.s.now u.args.p u.args.max in let r = u.uniform_of-u.result in
      (r.value ≡ z.value) × ((read_bits u.args.s.now u.args.p r.bits).next ≡ z.next)
  read =
      let m = u.args.max in
      let fit = both (leb 1 m) (ltb m 2147483648) u.if-max.true in
      u.uniform_of-u.ensures.reads u.args.s.now u.args.p u.look_ahead.ensures there.2 (leb-true 1 m fit.0) (ltb-true m 2147483648 fit.1)

pub overflow_add-stop : goal.overflow_add-stop
overflow_add-stop c = omega (arith, (there (goal.at.overflow_add-stop c).After-uniform_of-u).0, c.uniform_of-u.ensures.most)

pub overflow_add-result : goal.overflow_add-result
overflow_add-result c = omega (arith, (there (goal.at.overflow_add-result c).After-uniform_of-u).0, (there (goal.at.overflow_add-result c).After-uniform_of-u).1, c.uniform_of-u.ensures.most)

pub returns-then-eight_left : goal.returns-then-eight_left
returns-then-eight_left c =
    let s = c.args.s.now in
    let p = c.args.p in
    let h = there (goal.at.returns-then-eight_left c).After-uniform_of-u in
    let n = c.uniform_of-u.result.bits in
    let e = read_at s p p n {v = bits_at s (8 * p.byte + p.used) n} (settled_in s p (omega (arith, h.1)) h.0) (omega (arith, h.0, h.1, c.uniform_of-u.ensures.most)) refl in
    let next = ap (λ (r : Read ℕ). r.next) e ∙ (read (goal.at.returns-then-eight_left c).After-uniform_of-u).1 in
    rw ((read (goal.at.returns-then-eight_left c).After-uniform_of-u).0, next) refl
