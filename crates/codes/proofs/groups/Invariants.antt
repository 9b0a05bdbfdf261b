use mathlib.Core.Path.{◌≡◌}
use Prim.Native.Nat.{◌+◌, ◌-◌, ◌*◌, ◌^◌, ◌≤◌, ◌<◌}
use Rattle.codes.specs.Codes.{uleb_from}
use Rattle.codes.proofs.groups.Given as goal

abbrev pub invariant-loop : goal.invariant-loop
invariant-loop l =
    (l.counter ≤ 8)
    × (l.val < l.weight)
    × (l.weight * 2 ^ (7 * (8 - l.counter)) ≡ 2 ^ 56)
    × (l.val + l.weight * (uleb_from (8 - l.counter) l.s l.q).value ≡ (uleb_from 8 l.s l.initial.q).value)
    × ((uleb_from (8 - l.counter) l.s l.q).next ≡ (uleb_from 8 l.s l.initial.q).next)
