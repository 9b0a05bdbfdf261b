-- The tiles one by one: their sizes put, and the largest of them. Assumes nothing.
use mathlib.Core.List.{List, [], ◌∷◌, ◌++◌, append_assoc, append-nil}
use mathlib.Core.Path.{◌≡◌, refl, sym, ap, ◌∙◌}
use Prim.Native.Nat.{ℕ, suc, ◌+◌, ◌-◌, ◌*◌, min, max, ◌≤◌, ◌<◌}
use native.Mathlib.Omega.{arith}
use Rattle.tile_layout.specs.Layout.{tabulate, widest}
use Rattle.layout_bits.specs.Bits.{uniform_code, sizes_code}
use Rattle.layout_row.specs.Inner.{Appended}
use Rattle.layout_row.proofs.Append.{nothing, both}

-- the tile at i, and those behind it
first_of : (sz : ℕ → ℕ) (n i : ℕ) → i < n → tabulate sz i (n - i) ≡ sz i ∷ tabulate sz (i + 1) (n - (i + 1))
unfolding tabulate
first_of sz n i h =
    let e : n - i ≡ suc (n - (i + 1)) = omega arith in
    let f : suc i ≡ i + 1 = omega arith in
    rw (e, f) refl

none_of : (sz : ℕ → ℕ) (n i : ℕ) → n ≤ i → tabulate sz i (n - i) ≡ []
unfolding tabulate
none_of sz n i h =
    let e : n - i ≡ 0 = omega arith in
    rw e refl

-- the sizes put so far, and what remains for the others
pub record Going (sz : ℕ → ℕ) (total limit n : ℕ) (row₀ : List ℕ) (at : ℕ) (row : List ℕ) (end rest i : ℕ) : Type 0 where
  pub done : List ℕ
  pub put : Appended row₀ at done row end
  pub whole : sizes_code total limit (tabulate sz 0 n) ≡ done ++ sizes_code rest limit (tabulate sz i (n - i))
  pub low : rest ≤ total
  pub far : end ≤ at + 11 * i
  pub few : i ≤ n

module _ (sz : ℕ → ℕ) (total limit n : ℕ) (row₀ : List ℕ) (at : ℕ) where
  pub going_start : Going sz total limit n row₀ at row₀ at total 0
  going_start =
      let e : n - 0 ≡ n = omega arith in
      record { done = []; put = nothing row₀ at; whole = rw e refl; low = omega arith; far = omega arith; few = omega arith }

  pub going_next : {row row' : List ℕ} {end rest i size most value end' rest' : ℕ} → Going sz total limit n row₀ at row end rest i → i < n
      → size ≡ sz i → most ≡ min rest limit → value ≡ size - 1 → rest' ≡ rest - size
      → Appended row end (uniform_code most value) row' end' × (end' ≤ end + 11) → Going sz total limit n row₀ at row' end' rest' (i + 1)
  unfolding sizes_code
  going_next {rest} {i} g h z m v r p =
      let code = uniform_code (min rest limit) (sz i - 1) in
      let others = sizes_code (rest - sz i) limit (tabulate sz (i + 1) (n - (i + 1))) in
      record {
        done = g.done ++ code;
        put = both g.put (rw (m, v, z) at p.0);
        whole = g.whole ∙ rw (r, z, first_of sz n i h) (sym (append_assoc g.done code others));
        low = omega (arith, g.low);
        far = omega (arith, g.far, p.1);
        few = omega arith;
      }

  pub going_end : {row : List ℕ} {end rest i : ℕ} → Going sz total limit n row₀ at row end rest i → n ≤ i
      → Appended row₀ at (sizes_code total limit (tabulate sz 0 n)) row end × (end ≤ at + 11 * n)
  unfolding sizes_code
  going_end {rest} {i} g h =
      let e = g.whole ∙ ap (λ (l : List ℕ). g.done ++ sizes_code rest limit l) (none_of sz n i h) ∙ append-nil g.done in
      (rw e g.put, omega (arith, g.far, g.few))

-- the largest so far, and the others
pub record Widest (sz : ℕ → ℕ) (n most i : ℕ) : Type 0 where
  pub whole : max most (widest (tabulate sz i (n - i))) ≡ widest (tabulate sz 0 n)
  pub few : i ≤ n

module _ (sz : ℕ → ℕ) (n : ℕ) where
  pub widest_start : {most : ℕ} → most ≡ 0 → Widest sz n most 0
  widest_start e =
      let f : n - 0 ≡ n = omega arith in
      record { whole = rw f (omega arith); few = omega arith }

  pub widest_next : {most i most' : ℕ} → Widest sz n most i → i < n → most' ≡ max most (sz i) → Widest sz n most' (i + 1)
  unfolding widest
  widest_next {i} w h e = record { whole = omega (arith, rw (first_of sz n i h) at w.whole); few = omega arith }

  pub widest_end : {most i : ℕ} → Widest sz n most i → n ≤ i → most ≡ widest (tabulate sz 0 n)
  unfolding widest
  widest_end {i} w h = omega (arith, rw (none_of sz n i h) at w.whole)
