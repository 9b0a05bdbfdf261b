use mathlib.Core.Path.{◌∙◌, ap, sym}
use Prim.Native.Nat.{ℕ, ◌≤◌, ◌<◌, ◌^◌}
use lib.IntN.{ℤ, nat_abs}
use lib.Dec.{T}
use lib.Signed.{non_neg}
use mir.Facts.{to_z-of_z}
use Rattle.getbits.proofs.Widths.{nat_abs_fits, back, sign_zero, bits_known}
use Rattle.getbits.specs.declared.Read.{Read}
use Rattle.getbits.specs.Bits.{get_sbits, signed_of}
use Rattle.getbits.proofs.get_sbits.Goals as goal

abbrev signed : ℕ → Read ℕ → Read ℤ
signed n r = record { value = signed_of n r.value; next = r.next }

-- a number other than 0 came from a width that is right
known : (c : goal.Else-r-eq0) → T (non_neg c.args.n)
    × (1 ≤ nat_abs c.args.n)
    × (nat_abs c.args.n ≤ 32)
    × (c.get_bits-r.result.value < 2 ^ nat_abs c.args.n)
known c =
    let g = c.get_bits-r in
    let e = rw (to_z-of_z c.ranges.n) at g.ensures in
    bits_known c.args.s.now c.args.p c.args.n g.result e c.if-r-eq0.false

pub returns-then-r-eq0 : goal.returns-then-r-eq0
unfolding get_sbits
returns-then-r-eq0 c =
    let g = c.get_bits-r in
    let e = rw (to_z-of_z c.ranges.n) at g.ensures in
    let n = nat_abs c.args.n in
    ◌∙◌ {b = signed n g.result}
    (ap (λ (z : ℤ). record { value = z; next = g.result.next }) (sign_zero n ∙ ap (signed_of n) (sym c.if-r-eq0.true)))
    (ap (signed n) e)

pub overflow_cast-n : goal.overflow_cast-n
overflow_cast-n c =
    rw (to_z-of_z c.ranges.n) ((known c).0, nat_abs_fits c.args.n c.ranges.n)

pub sign-requires : goal.sign-requires
sign-requires c =
    rw (to_z-of_z c.ranges.n) ((known c).1, (known c).2, (known c).3)

pub returns : goal.returns
unfolding get_sbits
returns c =
    let g = c.get_bits-r in
    let e = rw (to_z-of_z c.ranges.n) at g.ensures in
    let n = nat_abs c.args.n in
    ◌∙◌ {b = signed n g.result}
    (ap (λ (z : ℤ). record { value = z; next = g.result.next }) (back c.sign.result c.sign.type_inv ∙ rw (to_z-of_z c.ranges.n) at c.sign.ensures))
    (ap (signed n) e)
