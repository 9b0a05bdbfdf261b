use mathlib.Core.Logic.{⊎_elim}
use mathlib.Core.Path.{◌≡◌, refl}
use Prim.Native.Nat.{ℕ, ◌+◌, ◌-◌, ◌≤◌}
use native.Mathlib.Omega.{arith}
use borrow.Author.Tests.{lt-ltb, le-ltb, le-leb, lt-leb}
use lib.Dec.{leb}
use lib.ListN.{length}
use Rattle.getbits.proofs.Places.{lt_or_le}
use Rattle.codes.proofs.eight_left.Goals as goal

-- the test as the program has it
shifted : (b n : ℕ) → 8 ≤ n → leb b (n - 8) ≡ leb (b + 8) n
shifted b n h =
    ⊎_elim
    (λ l. rw (lt-leb b (n - 8) l, lt-leb (b + 8) n (omega arith)) refl)
    (λ l. rw (le-leb b (n - 8) l, le-leb (b + 8) n (omega arith)) refl)
    (lt_or_le (n - 8) b)

pub returns-then-p-ge8 : goal.returns-then-p-ge8
returns-then-p-ge8 c = rw (le-ltb c.args.p.used 8 c.if-p-ge8.true) refl

pub returns-then-s-lt8 : goal.returns-then-s-lt8
returns-then-s-lt8 c =
    let a = c.args in
    rw (lt-ltb a.p.used 8 c.if-p-ge8.false, lt-leb (a.p.byte + 8) (length a.s.now) (omega arith)) refl

pub returns : goal.returns
returns c =
    let a = c.args in
    rw (lt-ltb a.p.used 8 c.if-p-ge8.false) (shifted a.p.byte (length a.s.now) c.if-s-lt8.false)
