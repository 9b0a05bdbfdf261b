use mathlib.Core.Path.{◌≡◌}
use Prim.Native.Nat.{ℕ, ◌+◌, ◌-◌, ◌≤◌}
use Rattle.getbits.specs.Chain.{turns}
use Rattle.seq_picture.specs.Picture.{layer}
use Rattle.seq_picture.proofs.read_layer_list.Given as goal

abbrev pub invariant-loop-n : goal.invariant-loop-n
invariant-loop-n l =
    (1 ≤ l.n) × (l.n - 1 ≤ l.n-end - 1) × (l.r ≡ turns (l.n - 1) (λ (i : ℕ). layer l.sent.value l.s (i + 1)) l.initial.r)
