-- Edges along one direction, each behind the one before it. Assumes nothing.
use mathlib.Core.List.{List}
use mathlib.Core.Logic.{⊎_elim}
use mathlib.Core.Path.{◌≡◌, sym, ap, ◌∙◌}
use Prim.Native.Nat.{ℕ, zero, suc, ◌+◌, ◌-◌, ◌*◌, min, ◌≤◌, ◌<◌}
use native.Mathlib.Nat.{zero-mul, add-mul, mul-le-mul_right}
use native.Mathlib.Numerals.{add-one}
use native.Mathlib.Omega.{arith}
use Rattle.getbits.proofs.Places.{lt_or_le}
use Rattle.tile_layout.specs.Layout.{sum}
use Rattle.tile_layout.proofs.Laws.{sum_append}
use Rattle.rectangles.specs.Rectangles.{each}

-- n + 1 edges, from 0 to `most`
pub record Line (n most : ℕ) (e : ℕ → ℕ) : Type 0 where
  pub first : e 0 ≡ 0
  pub last : e n ≡ most
  pub steps : (i : ℕ) → i < n → e i < e (i + 1)

module _ {n most : ℕ} {e : ℕ → ℕ} (l : Line n most e) where
  -- an edge further on is not further back
  pub climbs : (i j : ℕ) → i ≤ j → j ≤ n → e i ≤ e j
  climbs i zero h k = let z : i ≡ 0 = omega arith in omega (arith, ap e z)
  climbs i (suc j) h k =
      ⊎_elim
      (λ b. omega (arith, climbs i j (omega arith) (omega arith), l.steps j (omega arith), ap e (add-one j)))
      (λ b. let z : i ≡ suc j = omega arith in omega (arith, ap e z))
      (lt_or_le i (suc j))

  -- x stands between an edge and the next
  abbrev Between : ℕ → ℕ → Type 0
  Between x i = (e i ≤ x) × (x < e i + (e (i + 1) - e i))

  -- from an edge to the next
  pub apart : (i : ℕ) → i < n → 1 ≤ e (i + 1) - e i
  apart i h = omega (arith, l.steps i h)

  joined : (i : ℕ) → i < n → e i + (e (i + 1) - e i) ≡ e (i + 1)
  joined i h = omega (arith, l.steps i h)

  find : (x k : ℕ) → k ≤ n → x < e k → (i : ℕ) × (i < n) × Between x i
  find x zero h b = absurd (omega (arith, l.first))
  find x (suc k) h b =
      ⊎_elim
      (λ c. find x k (omega arith) c)
      (λ c. (k, omega arith, (c, omega (arith, joined k (omega arith), ap e (add-one k)))))
      (lt_or_le x (e k))

  -- each x before the last edge does, in one place
  pub found : (x : ℕ) → x < most → (i : ℕ) × (i < n) × Between x i
  found x h = find x n (omega arith) (omega (arith, l.last))

  pub alone : (i j x : ℕ) → i < n → j < n → Between x i → Between x j → i ≡ j
  alone i j x h k b c =
      ⊎_elim
      (λ u. absurd (omega (arith, joined i h, climbs (i + 1) j (omega arith) (omega arith))))
      (λ u. ⊎_elim (λ v. absurd (omega (arith, joined j k, climbs (j + 1) i (omega arith) (omega arith)))) (λ v. omega arith) (lt_or_le j i))
      (lt_or_le i j)

  -- lists, each adding up to what is between an edge and the next, times c
  sums : (f : ℕ → List ℕ) (c k : ℕ) → k ≤ n → ((i : ℕ) → i < n → sum (f i) ≡ (e (i + 1) - e i) * c) → sum (each k f) ≡ e k * c
  unfolding each sum
  sums f c zero b h = sym (ap (λ (x : ℕ). x * c) l.first ∙ zero-mul c)
  sums f c (suc k) b h =
      let next : e k + (e (k + 1) - e k) ≡ e (suc k) = joined k (omega arith) ∙ ap e (add-one k) in
      sum_append (each k f) (f k)
      ∙ omega (arith, sums f c k (omega arith) h, h k (omega arith), add-mul (e k) (e (k + 1) - e k) c, ap (λ (x : ℕ). x * c) next)

  pub all_sums : (f : ℕ → List ℕ) (c : ℕ) → ((i : ℕ) → i < n → sum (f i) ≡ (e (i + 1) - e i) * c) → sum (each n f) ≡ most * c
  all_sums f c h = sums f c n (omega arith) h ∙ ap (λ (x : ℕ). x * c) l.last

-- superblocks that reach over `most` samples, where one less does not, cut at the last sample
pub cut_line : {n closing : ℕ} {e : ℕ → ℕ} → Line n closing e → (side most : ℕ) → 1 ≤ side → most ≤ closing * side → closing * side < most + side
    → Line n most (λ i. min (e i * side) most)
cut_line {n} {closing} {e} l side most some enough few =
    record {
      first = omega (arith, ap (λ (x : ℕ). x * side) l.first, zero-mul side);
      last = omega (arith, ap (λ (x : ℕ). x * side) l.last);
      steps = λ i h.
          let low : e i + 1 ≤ closing = omega (arith, l.steps i h, climbs l (i + 1) n (omega arith) (omega arith), l.last) in
          omega (arith, mul-le-mul_right {m = e i + 1} {n = e (i + 1)} side (omega (arith, l.steps i h)), mul-le-mul_right {m = e i + 1} {n = closing} side low, add-mul (e i) 1 side);
    }
