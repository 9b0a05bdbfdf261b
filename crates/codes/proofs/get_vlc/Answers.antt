use mathlib.Core.List.{List}
use mathlib.Core.Path.{◌≡◌, ◌∙◌, sym, ap}
use Prim.Native.Nat.{ℕ, ◌-◌, ◌^◌, ◌<◌}
use native.Mathlib.Omega.{arith}
use borrow.Author.Tests.{lt-ltb, le-ltb}
use borrow.Author.Rules.{rules}
use lib.IntN.{pos}
use Rattle.getbits.specs.declared.Place.{Place}
use Rattle.getbits.specs.Bits.{get_bits}
use Rattle.codes.specs.Codes.{plus, run_of, get_vlc}
use Rattle.getbits.proofs.Callers.{as_read, read_lt, power_below}
use Rattle.getbits.proofs.Chain.{through, taken, left}
use Rattle.getbits.specs.declared.Read.{Read}
use Rattle.codes.proofs.get_vlc.Goals as goal

vlc_read : (s : List ℕ) (p : Place) (z r : Read ℕ) {w : ℕ}
    → z ≡ run_of 0 32 s p → z.value < 32 → r ≡ get_bits s z.next (pos z.value) → w ≡ 2 ^ z.value → plus (w - 1) r ≡ get_vlc s p
unfolding get_vlc
vlc_read s p z r e h f g =
    sym (through _ _ e
    ∙ taken _ _ _ (lt-ltb z.value 32 h)
    ∙ ap (plus (2 ^ z.value - 1)) (sym (as_read s z.next z.value (omega arith) f))
    ∙ ap (λ (x : ℕ). plus (x - 1) r) (sym g))

pub overflow_add-result : goal.overflow_add-result
overflow_add-result c =
    let z = c.run-z.result in
    let r = as_read c.args.s.now z.next z.value (omega arith) c.read_bits-r.ensures in
    omega (arith, read_lt c.args.s.now z.next z.value, ap (λ (x : Read ℕ). x.value) r, power_below (omega arith) c.power.ensures.0)

pub returns-then-n_bits-lt32 : goal.returns-then-n_bits-lt32
returns-then-n_bits-lt32 c =
    let a = c.args in
    let r = c.read_bits-r in
    vlc_read a.s.now a.p c.run-z.result r.result c.run-z.ensures (search rules) r.ensures (power_below (search rules) c.power.ensures.0)

pub returns : goal.returns
unfolding get_vlc
returns c =
    sym (through _ _ c.run-z.ensures ∙ left _ _ _ (le-ltb c.run-z.result.value 32 (search rules)))
