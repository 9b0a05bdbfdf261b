-- Laws of runs of equal bits, as one word tells them. Assumes nothing.
use mathlib.Core.Path.{◌≡◌, refl, sym, ap, ◌∙◌}
use mathlib.Core.List.{List}
use Prim.Native.Nat.{ℕ, zero, suc, ◌+◌, ◌-◌, ◌*◌, ◌%◌, ◌^◌, ◌≤◌, ◌<◌, min}
use native.Mathlib.Omega.{arith}
use lib.Count.{count_leading_zeros}
use lib.Dec.{eqb}
use Rattle.getbits.specs.Bits.{position, read_bits, look_at, get_bit}
use Rattle.getbits.specs.Chain.{pick, then}
use Rattle.getbits.specs.declared.Read.{Read}
use Rattle.getbits.specs.declared.Place.{Place}
use Rattle.getbits.proofs.Callers.{read_none, read_settled}
use Rattle.getbits.proofs.Chain.{picked}
use Rattle.getbits.proofs.Fields.{bits_lt}
use Rattle.codes.specs.Codes.{plus, run_of}
use Rattle.codes.proofs.Word.{count, run_behind}

-- a run is at most as long as is looked for
pub run_le : (bit k : ℕ) (s : List ℕ) (p : Place) → (run_of bit k s p).value ≤ k
unfolding run_of then
run_le bit zero s p = omega arith
run_le bit (suc k) s p =
    let b = get_bit s p in
    let rest = run_of bit k s b.next in
    picked (λ (r : Read ℕ). r.value ≤ suc k) (eqb b.value bit) (plus 1 rest) (record { value = 0; next = b.next })
    (λ _. omega (arith, run_le bit k s b.next))
    (λ _. omega arith)

-- behind a place and behind no bit of it
from_place : (bit m : ℕ) (s : List ℕ) (p : Place) → run_of bit (suc m) s (read_bits s p 0).next ≡ run_of bit (suc m) s p
unfolding run_of get_bit
from_place bit m s p = rw (read_none s p, read_settled s p 1) refl

-- a run of zeros or of ones, at most k, as one word tells it
pub run_word : (bit k : ℕ) (s : List ℕ) (p : Place) {w n : ℕ} {r : Read ℕ} → bit < 2 → 1 ≤ k → k ≤ 32
    → w ≡ look_at s p 32 → n ≡ min (count_leading_zeros 32 (pick (eqb bit 0) w (2 ^ 32 - 1 - w))) k → r ≡ read_bits s p (min (n + 1) k)
    → record { value = n; next = r.next } ≡ run_of bit k s p
unfolding look_at
run_word bit (suc m) s p {w} {n} {r} b h l e f g =
    let whole : w * 2 ^ 0 % 4294967296 ≡ w = omega (arith, e, bits_lt s (position s p) 32) in
    let run = rw whole at (run_behind bit b s p w e (suc m) 0 (omega arith)) in
    let z : min (n + 1) (suc m) ≡ 0 + min (count bit w + 1) (suc m) = omega (arith, f) in
    ap (λ (x : Read ℕ). record { value = n; next = x.next }) g
    ∙ ap (λ (x : ℕ). record { value = n; next = (read_bits s p x).next }) z
    ∙ ap (λ (x : ℕ). record { value = x; next = (read_bits s p (0 + min (count bit w + 1) (suc m))).next }) f
    ∙ sym run
    ∙ from_place bit m s p
run_word bit zero s p b h l e f g = absurd (omega arith)
