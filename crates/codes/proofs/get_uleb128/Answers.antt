use Rattle.std.proofs.Common.{ℕ}
use mathlib.Core.Path.{◌≡◌, ◌∙◌, sym}
use Prim.Native.Nat.{◌^◌}
use borrow.Author.Tests.{lt-ltb, le-ltb}
use Rattle.codes.specs.Codes.{uleb_from, get_uleb128}
use Rattle.getbits.proofs.Chain.{through, taken, left}
use Rattle.getbits.specs.declared.Read.{Read}
use Rattle.codes.proofs.get_uleb128.Goals as goal

pub returns-then-r-lt4294967296 : goal.returns-then-r-lt4294967296
unfolding get_uleb128
returns-then-r-lt4294967296 c =
    let whole : ◌≡◌ {A = Read ℕ} (record { value = c.groups-r.result.value; next = c.groups-r.result.next }) (uleb_from 8 c.args.s.now c.args.p) = rw (c.groups-r.ensures.0, c.groups-r.ensures.1) in
    sym (through _ _ (whole) ∙ taken _ _ _ (lt-ltb c.groups-r.result.value (2 ^ 32) c.if-r-lt4294967296.true))

pub returns : goal.returns
unfolding get_uleb128
returns c =
    let whole : ◌≡◌ {A = Read ℕ} (record { value = c.groups-r.result.value; next = c.groups-r.result.next }) (uleb_from 8 c.args.s.now c.args.p) = rw (c.groups-r.ensures.0, c.groups-r.ensures.1) in
    sym (through _ _ (whole) ∙ left _ _ _ (le-ltb c.groups-r.result.value (2 ^ 32) c.if-r-lt4294967296.false))
