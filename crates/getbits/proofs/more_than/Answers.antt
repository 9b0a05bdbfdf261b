use mathlib.Core.List.{List}
use mathlib.Core.Logic.{⊎_elim}
use mathlib.Core.Path.{◌≡◌, refl, sym}
use Prim.Native.Nat.{ℕ, ◌+◌, ◌-◌, ◌/◌, ◌<◌}
use native.Mathlib.Omega.{arith}
use borrow.Author.Rules.{rules}
use borrow.Author.Tests.{lt-ltb, le-ltb}
use lib.Dec.{ltb}
use lib.ListN.{length}
use Rattle.getbits.specs.Bits.{bit_count, position}
use Rattle.getbits.specs.declared.Place.{Place}
use Rattle.getbits.proofs.Places.{lt_or_le, pos_in, pos_past, pos_over}
use Rattle.getbits.proofs.more_than.Goals as goal

-- the test as the program has it
whole_bytes : (s : List ℕ) (p : Place) (n : ℕ) → p.byte < length s → p.used < 8 → ltb ((p.used + n) / 8) (length s - p.byte) ≡ ltb (position s p + n) (bit_count s)
whole_bytes s p n h k =
    let at = pos_in s p h k in
    ⊎_elim
    (λ l. rw (lt-ltb ((p.used + n) / 8) (length s - p.byte) l, lt-ltb (position s p + n) (bit_count s) (omega (arith, at))) refl)
    (λ l. rw (le-ltb ((p.used + n) / 8) (length s - p.byte) l, le-ltb (position s p + n) (bit_count s) (omega (arith, at))) refl)
    (lt_or_le ((p.used + n) / 8) (length s - p.byte))

pub returns-then-p-ge8 : goal.returns-then-p-ge8
returns-then-p-ge8 c =
    let a = c.args in
    sym (le-ltb (position a.s.now a.p + a.n) (bit_count a.s.now) (omega (arith, pos_over a.s.now a.p (search rules))))

pub returns-then-s-p : goal.returns-then-s-p
returns-then-s-p c =
    let a = c.args in
    sym (le-ltb (position a.s.now a.p + a.n) (bit_count a.s.now) (omega (arith, pos_past a.s.now a.p (search rules))))

pub returns : goal.returns
returns c =
    let a = c.args in
    whole_bytes a.s.now a.p a.n (search rules) (search rules)
