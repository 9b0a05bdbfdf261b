-- The sizes of a non-uniform layout and their bits, for columns and rows alike. Assumes nothing.
use mathlib.Core.Path.{◌≡◌, refl, sym, ap, ◌∙◌}
use mathlib.Core.Bool.{false}
use mathlib.Core.List.{List, [], ◌∷◌}
use Prim.Native.Nat.{ℕ, zero, suc, ◌+◌, ◌-◌, ◌^◌, min, ◌≤◌, ◌<◌}
use native.Mathlib.Omega.{arith}
use lib.ListN.{length, get_or}
use Rattle.getbits.specs.Bits.{position}
use Rattle.getbits.specs.Chain.{then}
use Rattle.getbits.specs.declared.Place.{Place}
use Rattle.codes.specs.Codes.{get_uniform}
use Rattle.tile_layout.specs.Layout.{read_sizes, sum, tabulate}
use Rattle.layout_bits.specs.Rows.{StandsAt, Used}
use Rattle.layout_bits.specs.Bits.{uniform_code, sizes_code}
use Rattle.layout_bits.specs.Readable.{Fills}
use Rattle.layout_bits.proofs.Rows.{split, none, behind, on}
use Rattle.layout_bits.proofs.Numbers.{code_uniform}

pub sizes_used : (most : ℕ) (s : List ℕ) (p : Place) (whole limit : ℕ) → 1 ≤ limit → whole < 2 ^ 31
    → (let r = read_sizes most s p whole limit in r.next.error ≡ false → Used s p r.next (sizes_code whole limit r.sizes))
unfolding read_sizes sizes_code then
sizes_used zero s p whole limit lo hi e = none refl refl
sizes_used (suc most) s p zero limit lo hi e = none refl refl
sizes_used (suc most) s p (suc n) limit lo hi e =
    let g = get_uniform s p (min (suc n) limit) in
    let left = suc n - (g.value + 1) in
    let z = sizes_used most s g.next left limit lo (omega arith) e in
    let r = (code_uniform (min (suc n) limit) (omega arith) (omega arith)).used s p (sym z.error ∙ e) in
    let v : g.value + 1 - 1 ≡ g.value = omega arith in
    rw v (on (uniform_code (min (suc n) limit) g.value) (sizes_code left limit (read_sizes most s g.next left limit).sizes) r z)

-- without the first size
rest : {most n limit z : ℕ} {zs : List ℕ} → Fills (suc most) (suc n) limit (z ∷ zs) → Fills most (suc n - z) limit zs
unfolding sum
rest f = record { few = omega (arith, f.few); adds = omega (arith, f.adds); each = λ k h. f.each (suc k) (omega arith) }

pub sizes_reads : (most : ℕ) (s : List ℕ) (p : Place) (whole limit : ℕ) (zs : List ℕ) → whole < 2 ^ 31 → Fills most whole limit zs
    → StandsAt s (position s p) (sizes_code whole limit zs)
    → (let r = read_sizes most s p whole limit in (r.sizes ≡ zs) × Used s p r.next (sizes_code whole limit zs))
unfolding read_sizes sizes_code sum then
sizes_reads zero s p whole limit [] hi f st = (refl, none refl refl)
sizes_reads zero s p whole limit (z ∷ zs) hi f st = absurd (omega (arith, f.few))
sizes_reads (suc most) s p zero limit [] hi f st = (refl, none refl refl)
sizes_reads (suc most) s p zero limit (z ∷ zs) hi f st = absurd (omega (arith, f.adds, f.each 0 (omega arith)))
sizes_reads (suc most) s p (suc n) limit [] hi f st = absurd (omega (arith, f.adds))
sizes_reads (suc most) s p (suc n) limit (z ∷ zs) hi f st =
    let max = min (suc n) limit in
    let b = f.each 0 (omega arith) in
    let first = uniform_code max (z - 1) in
    let others = sizes_code (suc n - z) limit zs in
    let r = (code_uniform max (omega arith) (omega arith)).reads s p (z - 1) (omega (arith, f.adds)) (split first others st).0 in
    let g = get_uniform s p max in
    let e : g.value + 1 ≡ z = omega (arith, r.0) in
    let t = sizes_reads most s g.next (suc n - z) limit zs (omega arith) (rest f) (behind others r.1 st) in
    rw e (ap (λ (l : List ℕ). z ∷ l) t.0, on first others r.1 t.1)

-- sizes that a function gives one by one
pub tabulated : (f : ℕ → ℕ) (i : ℕ) (zs : List ℕ) → ((k : ℕ) → k < length zs → f (i + k) ≡ get_or zs k 0) → tabulate f i (length zs) ≡ zs
unfolding tabulate
tabulated f i [] h = refl
tabulated f i (z ∷ zs) h =
    let q : i + 0 ≡ i = omega arith in
    let e : (k : ℕ) → suc i + k ≡ i + suc k = λ k. omega arith in
    rw (rw q at (h 0 (omega arith)), tabulated f (suc i) zs (λ k l. ap f (e k) ∙ h (suc k) (omega arith)))
