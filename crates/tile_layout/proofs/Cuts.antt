-- One direction of a layout: the cut of its superblocks into tiles. Assumes nothing.
use mathlib.Core.Path.{◌≡◌, sym, ◌∙◌, ap, subst}
use mathlib.Core.List.{List}
use Prim.Native.Nat.{ℕ, ◌+◌, ◌-◌, ◌*◌, ◌/◌, ◌^◌, ◌≤◌, ◌<◌}
use native.Mathlib.Nat.{mul_assoc, zero-add}
use native.Mathlib.Decide.{dec_lt}
use native.Mathlib.Omega.{arith}
use lib.ListN.{length, get_or}
use Rattle.tile_layout.specs.Layout.{count, start_at, sum, tabulate, padded, non_uniform_edges}
use Rattle.tile_layout.proofs.Laws.{telescope}
use Rattle.tile_layout.proofs.Even.{Step, even, few_tiles}
use Rattle.tile_layout.proofs.Domain.{Along, Pair, pairs}
use Rattle.tile_layout.proofs.Sized.{Sized, edge_zeroth, edge_closing, gap}

-- n tiles between the edges e 0, .., e n cover `closing` superblocks, none empty and none above the limit
pub record Cut (n closing limit : ℕ) (e : ℕ → ℕ) : Type 0 where
  pub some : 1 ≤ n
  pub few : n ≤ 64
  pub filled : (i : ℕ) → i < n → 1 ≤ e (i + 1) - e i
  pub narrow : (i : ℕ) → i < n → e (i + 1) - e i ≤ limit
  pub first : e 0 ≡ 0
  pub adds : sum (tabulate (λ i. e (i + 1) - e i) 0 n) ≡ closing

-- no tile is more than one superblock larger than another
abbrev pub Balanced : ℕ → (ℕ → ℕ) → Type 0
Balanced n e = (i k : ℕ) → i < n → k < n → e (i + 1) - e i ≤ e (k + 1) - e k + 1

cut : {n closing limit : ℕ} {e : ℕ → ℕ} → 1 ≤ n → n ≤ 64 → e 0 ≡ 0 → e n ≡ closing → ((i : ℕ) → i < n → (e i < e (i + 1)) × (e (i + 1) ≤ e i + limit)) → Cut n closing limit e
cut {n} {closing} {limit} {e} some few first last step =
    record {
      some = some;
      few = few;
      filled = λ i h. omega (arith, step i h);
      narrow = λ i h. omega (arith, step i h);
      first = first;
      adds = omega (arith, telescope e 0 n (λ i _ h. omega (arith, step i (omega arith))), ap e (zero-add n));
    }

-- the sizes that the non-uniform rule reads, where they fill the frame
pub sized_cut : (sizes : List ℕ) (closing limit : ℕ) → Sized 64 closing limit sizes → sum sizes ≡ closing → 1 ≤ closing
    → Cut (length sizes) closing limit (λ k. get_or (padded (non_uniform_edges sizes closing)) k 0)
sized_cut sizes closing limit z whole h =
    cut (z.some (omega arith) h) z.few (edge_zeroth sizes closing whole) (edge_closing sizes closing whole)
    (λ i l. omega (arith, gap sizes closing whole i l, z.each i l))

-- what is between tile i and the next, from what is between inner tiles and before the end
each : (P : ℕ → ℕ → Type 0) (n closing : ℕ) (e : ℕ → ℕ) → e n ≡ closing
    → ((i : ℕ) → i + 1 < n → P (e i) (e (i + 1))) → ((i : ℕ) → i + 1 ≡ n → P (e i) closing)
    → (i : ℕ) → i < n → P (e i) (e (i + 1))
each P n closing e end inner last i h =
    elim (dec_lt (i + 1) n) [
      | yes y ↦ inner i y
      | no z ↦
          let q : i + 1 ≡ n = omega arith in
          subst (P (e i)) (sym (ap e q ∙ end)) (last i q)
    ]

module _ (full all log limit closing : ℕ) (some_full : 1 ≤ full) (full_le : full ≤ all) (le_full : all ≤ full + 1) (log≤ : log ≤ 6) (cover : closing ≤ limit * 2 ^ log)
    (e : ℕ → ℕ) (end : e (count full all log) ≡ closing) where
  -- multiplier 1
  one : 1 ≤ limit → closing ≤ 1 * all → 1 * all < closing + 1 → ((k : ℕ) → k < count full all log → e k ≡ 1 * start_at full all log k)
      → Cut (count full all log) closing limit e × Balanced (count full all log) e
  one l inside reaches starts =
      let c = even full all log limit some_full full_le le_full l (omega arith) in
      let step : (i : ℕ) → i < count full all log → Step c.low limit (e i) (e (i + 1)) =
      each (Step c.low limit) (count full all log) closing e end
      (λ i h. omega (arith, c.inner i h, starts i (omega arith), starts (i + 1) h))
      (λ i h. omega (arith, c.last i h, starts i (omega arith))) in (
        cut c.few (few_tiles full all log limit some_full full_le le_full l (omega arith) log≤) (omega (arith, c.zeroth, starts 0 c.few)) end
            (λ i h. omega (arith, step i h, c.some)),
        λ i k h g. omega (arith, step i h, step k g),
      )

  -- multiplier 2
  two : 1 ≤ limit / 2 → limit ≡ 2 * (limit / 2) → closing ≤ 2 * all → 2 * all < closing + 2 → ((k : ℕ) → k < count full all log → e k ≡ 2 * start_at full all log k)
      → Cut (count full all log) closing limit e
  two l half inside reaches starts =
      let doubled : limit * 2 ^ log ≡ 2 * (limit / 2 * 2 ^ log) = ap (λ (x : ℕ). x * 2 ^ log) half ∙ mul_assoc 2 (limit / 2) (2 ^ log) in
      let c = even full all log (limit / 2) some_full full_le le_full l (omega arith) in
      cut c.few (few_tiles full all log (limit / 2) some_full full_le le_full l (omega arith) log≤) (omega (arith, c.zeroth, starts 0 c.few)) end
      (each (λ x y. (x < y) × (y ≤ x + limit)) (count full all log) closing e end
      (λ i h. omega (arith, c.inner i h, c.some, starts i (omega arith), starts (i + 1) h))
      (λ i h. omega (arith, c.last i h, c.some, starts i (omega arith))))

-- the even cut of the uniform rule; the limit is even, as it has to be for multiplier 2
pub even_cut : (f q m : ℕ) → Pair f q m → (full all log limit closing : ℕ) → Along f m closing full all → log ≤ 6
    → 2 ≤ limit → limit ≡ 2 * (limit / 2) → closing ≤ limit * 2 ^ log
    → (e : ℕ → ℕ) → ((k : ℕ) → k < count full all log → e k ≡ m * start_at full all log k) → e (count full all log) ≡ closing
    → Cut (count full all log) closing limit e × (f ≡ q → Balanced (count full all log) e)
even_cut f q m pair full all log limit closing al lg two≤ half cover e starts end =
    pairs
    (λ f q m. Along f m closing full all → ((k : ℕ) → k < count full all log → e k ≡ m * start_at full all log k)
    → Cut (count full all log) closing limit e × (f ≡ q → Balanced (count full all log) e))
    single single single
    (λ a st. (two full all log limit closing a.some_full a.full_le a.le_full lg cover e end (omega arith) half a.inside a.reaches st, λ x. absurd (omega arith)))
    f q m pair al starts
  where
    single : {f : ℕ} → Along f 1 closing full all → ((k : ℕ) → k < count full all log → e k ≡ 1 * start_at full all log k)
        → Cut (count full all log) closing limit e × (f ≡ f → Balanced (count full all log) e)
    single a st =
        let c = one full all log limit closing a.some_full a.full_le a.le_full lg cover e end (omega arith) a.inside a.reaches st in
        (c.0, λ _. c.1)
