-- The sizes of a non-uniform layout, and the edges that they give. Assumes nothing.
use mathlib.Core.Path.{◌≡◌, refl, sym, ◌∙◌, ap}
use mathlib.Core.List.{List, [], ◌∷◌, ◌++◌}
use Prim.Native.Nat.{ℕ, zero, suc, ◌+◌, ◌-◌, min, ◌≤◌, ◌<◌}
use native.Mathlib.Numerals.{add-one}
use native.Mathlib.Omega.{arith}
use lib.ListN.{length, get_or}
use Rattle.getbits.specs.Chain.{then}
use Rattle.getbits.specs.declared.Read.{Read}
use Rattle.getbits.specs.declared.Place.{Place}
use Rattle.codes.specs.Codes.{get_uniform}
use Rattle.codes.proofs.Callers.{uniform_lt}
use Rattle.tile_layout.specs.Layout.{read_sizes, sum, widest, starts_from, non_uniform_edges, padded}
use Rattle.tile_layout.proofs.Laws.{padded_at}

-- sizes from 1 to `limit`, at most `most` of them, with a sum of at most `remains`
pub record Sized (most remains limit : ℕ) (sizes : List ℕ) : Type 0 where
  pub few : length sizes ≤ most
  pub inside : sum sizes ≤ remains
  pub each : (k : ℕ) → k < length sizes → (1 ≤ get_or sizes k 0) × (get_or sizes k 0 ≤ limit)
  pub some : 1 ≤ most → 1 ≤ remains → 1 ≤ length sizes

pub sizes_read : (most : ℕ) (s : List ℕ) (p : Place) (remains limit : ℕ) → 1 ≤ limit → Sized most remains limit (read_sizes most s p remains limit).sizes
unfolding read_sizes sum then
sizes_read zero s p remains limit l = record { few = omega arith; inside = omega arith; each = λ k h. omega arith; some = λ h. omega arith }
sizes_read (suc most) s p zero limit l = record { few = omega arith; inside = omega arith; each = λ k h. omega arith; some = λ h g. omega arith }
sizes_read (suc most) s p (suc n) limit l =
    let v : Read ℕ = get_uniform s p (min (suc n) limit) in
    let v< : v.value < min (suc n) limit = uniform_lt s p (min (suc n) limit) (omega arith) in
    let ih = sizes_read most s v.next (suc n - (v.value + 1)) limit l in
    record {
      few = omega (arith, ih.few);
      inside = omega (arith, ih.inside, v<);
      each = λ k. elim k as (λ k. k < length ((v.value + 1) ∷ (read_sizes most s v.next (suc n - (v.value + 1)) limit).sizes) → (1 ≤ get_or ((v.value + 1) ∷ (read_sizes most s v.next (suc n - (v.value + 1)) limit).sizes) k 0) × (get_or ((v.value + 1) ∷ (read_sizes most s v.next (suc n - (v.value + 1)) limit).sizes) k 0 ≤ limit)) [ zero ↦ λ h. omega (arith, v<) | suc j ↦ λ h. ih.each j (omega arith) ];
      some = λ h g. omega arith;
    }

-- where at most as many superblocks remain as there may be sizes, the sizes fill them
pub all_filled : (most : ℕ) (s : List ℕ) (p : Place) (remains limit : ℕ) → remains ≤ most → remains ≤ sum (read_sizes most s p remains limit).sizes
unfolding read_sizes sum then
all_filled zero s p remains limit h = omega arith
all_filled (suc most) s p zero limit h = omega arith
all_filled (suc most) s p (suc k) limit h =
    let g = get_uniform s p (min (suc k) limit) in
    omega (arith, all_filled most s g.next (suc k - (g.value + 1)) limit (omega arith))

pub below_widest : (sizes : List ℕ) (k : ℕ) → k < length sizes → get_or sizes k 0 ≤ widest sizes
unfolding widest
below_widest [] k h = absurd (omega arith)
below_widest (x ∷ xs) zero h = omega arith
below_widest (x ∷ xs) (suc k) h = omega (arith, below_widest xs k (omega arith))

-- there is a size, so the widest is not 0
pub some_widest : {most remains limit : ℕ} {sizes : List ℕ} → Sized most remains limit sizes → 1 ≤ most → 1 ≤ remains → 1 ≤ widest sizes
some_widest {sizes = sizes} z h k =
    let n = z.some h k in
    omega (arith, z.each 0 n, below_widest sizes 0 n)

pub widest_below : (sizes : List ℕ) (limit : ℕ) → ((k : ℕ) → k < length sizes → get_or sizes k 0 ≤ limit) → widest sizes ≤ limit
unfolding widest
widest_below [] limit h = omega arith
widest_below (x ∷ xs) limit h = omega (arith, h 0 (omega arith), widest_below xs limit (λ k g. h (suc k) (omega arith)))

-- the edges: the first is `at`, and each is the one before it and the size between them
edge_first : (sizes : List ℕ) (at closing : ℕ) → at + sum sizes ≡ closing → get_or (starts_from at sizes ++ (closing ∷ [])) 0 0 ≡ at
unfolding starts_from sum
edge_first [] at closing q = omega arith
edge_first (x ∷ xs) at closing q = refl

edge_next : (sizes : List ℕ) (at closing : ℕ) → at + sum sizes ≡ closing → (k : ℕ) → k < length sizes
    → get_or (starts_from at sizes ++ (closing ∷ [])) (suc k) 0 ≡ get_or (starts_from at sizes ++ (closing ∷ [])) k 0 + get_or sizes k 0
unfolding starts_from sum
edge_next [] at closing q k h = absurd (omega arith)
edge_next (x ∷ xs) at closing q zero h = edge_first xs (at + x) closing (omega arith)
edge_next (x ∷ xs) at closing q (suc k) h = edge_next xs (at + x) closing (omega arith) k (omega arith)

edge_last : (sizes : List ℕ) (at closing : ℕ) → get_or (starts_from at sizes ++ (closing ∷ [])) (length sizes) 0 ≡ closing
unfolding starts_from
edge_last [] at closing = refl
edge_last (x ∷ xs) at closing = edge_last xs (at + x) closing

pub length_starts : (sizes : List ℕ) (at : ℕ) → length (starts_from at sizes) ≡ length sizes
unfolding starts_from
length_starts [] at = refl
length_starts (x ∷ xs) at = ap suc (length_starts xs (at + x))

module _ (sizes : List ℕ) (closing : ℕ) (whole : sum sizes ≡ closing) where
  -- the entries of the array after
  abbrev pub edge : ℕ → ℕ
  edge k = get_or (padded (non_uniform_edges sizes closing)) k 0

  same_at : (k : ℕ) → k ≤ length sizes → edge k ≡ get_or (starts_from 0 sizes ++ (closing ∷ [])) k 0
  same_at k h = padded_at (starts_from 0 sizes) closing k (omega (arith, length_starts sizes 0))

  pub edge_zeroth : edge 0 ≡ 0
  edge_zeroth = same_at 0 (omega arith) ∙ edge_first sizes 0 closing (omega arith)

  pub edge_closing : edge (length sizes) ≡ closing
  edge_closing = same_at (length sizes) (omega arith) ∙ edge_last sizes 0 closing

  -- between two of them is the size that was read
  pub gap : (k : ℕ) → k < length sizes → edge (k + 1) ≡ edge k + get_or sizes k 0
  gap k h =
      same_at (k + 1) (omega arith)
      ∙ ap (λ (x : ℕ). get_or (starts_from 0 sizes ++ (closing ∷ [])) x 0) (add-one k)
      ∙ edge_next sizes 0 closing (omega arith) k h
      ∙ ap (λ (x : ℕ). x + get_or sizes k 0) (sym (same_at k (omega arith)))
