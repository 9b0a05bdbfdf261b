use Rattle.std.proofs.Common.{ℕ}
use mathlib.Core.Path.{◌≡◌, sym, ap, ◌∙◌}
use Prim.Native.Nat.{◌+◌, ◌*◌, ◌<◌, ◌≤◌}
use native.Mathlib.Omega.{arith}
use borrow.Author.Tests.{ltb-true, ltb-false}
use lib.ListN.{length}
use Rattle.getbits.specs.Bits.{bit_count, position}
use Rattle.getbits.specs.declared.Read.{Read}
use Rattle.getbits.specs.declared.Place.{Place}
use Rattle.getbits.proofs.Callers.{read_there}
use Rattle.getbits.proofs.Places.{pos_in, pos_before, place_at_lem, place_end, read_short}
use Rattle.getbits.proofs.skip.Goals as goal

-- where more than n bits are left
more : (c : goal.After-struct_known-then-more_than-1) → let a = c.args in position a.s.now a.p + a.n < bit_count a.s.now
more c = let a = c.args in ltb-true (position a.s.now a.p + a.n) (bit_count a.s.now) (sym c.more_than.ensures ∙ c.if-more_than.true)

within : (c : goal.After-struct_known-then-more_than-1) → let a = c.args in (a.p.byte < length a.s.now) × (a.p.used < 8)
within c = let a = c.args in pos_before a.s.now a.p (omega (arith, more c))

at : (c : goal.After-struct_known-then-more_than-1) → let a = c.args in position a.s.now a.p ≡ 8 * a.p.byte + a.p.used
at c = let a = c.args in pos_in a.s.now a.p (within c).0 (within c).1

-- else at most n are
few : (c : goal.Then-q-n) → let a = c.args in bit_count a.s.now ≤ position a.s.now a.p + a.n
few c = let a = c.args in ltb-false (position a.s.now a.p + a.n) (bit_count a.s.now) (sym c.more_than.ensures ∙ c.if-more_than.false)

pub overflow_add-result : goal.overflow_add-result
overflow_add-result c =
    omega (arith, more c, at c, c.well_formed)

pub returns-then-more_than : goal.returns-then-more_than
returns-then-more_than c =
    let a = c.args in
    place_at_lem _ _ (position a.s.now a.p + a.n) _ (omega (arith, at c)) (omega arith)
    ∙ sym (ap (λ (r : Read ℕ). r.next) (read_there a.s.now a.p a.n (omega (arith, more c))))

pub returns-then-q-n : goal.returns-then-q-n
returns-then-q-n c =
    let settled_at : let a = c.args in 8 * c.settle-q.result.byte + c.settle-q.result.used ≡ position a.s.now a.p = let e = c.settle-q.ensures.0 in
    omega (arith, ap (λ (x : Place). x.byte) e, ap (λ (x : Place). x.used) e) in
    let a = c.args in
    let all : position a.s.now a.p + a.n ≡ bit_count a.s.now = omega (arith, few c, settled_at, c.if-q-n.true) in
    place_end a.s.now a.p.error
    ∙ sym (ap (λ (r : Read ℕ). r.next) (read_there a.s.now a.p a.n (omega (arith, all))) ∙ rw all)

pub returns : goal.returns
returns c =
    let settled_at : let a = c.args in 8 * c.settle-q.result.byte + c.settle-q.result.used ≡ position a.s.now a.p = let e = c.settle-q.ensures.0 in
    omega (arith, ap (λ (x : Place). x.byte) e, ap (λ (x : Place). x.used) e) in
    let a = c.args in
    ap (λ (r : Read ℕ). r.next) (c.exhausted-r.ensures ∙ read_short a.s.now a.p a.n (omega (arith, settled_at, c.if-q-n.false)))
