-- A loop that stops: once a turn changes nothing, the further turns don't either. Assumes nothing.
use mathlib.Core.List.{List}
use mathlib.Core.Bool.{true}
use mathlib.Core.Path.{◌≡◌, ap, ◌∙◌}
use Prim.Native.Nat.{ℕ, zero, suc, ◌+◌}
use native.Mathlib.Nat.{add-zero, add-suc}
use Rattle.getbits.specs.Chain.{turns}
use Rattle.getbits.proofs.Chain.{taken}
use Rattle.film_grain.specs.Points.{PointsRead, point}

stops : {A : Type 0} (f : ℕ → A → A) (a : A) (i k : ℕ) → ((j : ℕ) → f j (turns i f a) ≡ turns i f a) → turns (i + k) f a ≡ turns i f a
unfolding turns
stops {A} f a i zero h = ap (λ (m : ℕ). turns m f a) (add-zero i)
stops {A} f a i (suc k) h = ap (λ (m : ℕ). turns m f a) (add-suc i k) ∙ ap (f (i + k)) (stops f a i k h) ∙ h (i + k)

-- behind a refused point nothing is read
pub refused_stays : (s : List ℕ) (index-bits scaling-bits i k : ℕ) (a : PointsRead) → (turns i (point s index-bits scaling-bits) a).refused ≡ true
    → turns (i + k) (point s index-bits scaling-bits) a ≡ turns i (point s index-bits scaling-bits) a
unfolding point
refused_stays s index-bits scaling-bits i k a e = stops (point s index-bits scaling-bits) a i k (λ j. taken _ _ _ e)
