-- The loop that reads sizes: what is done, and what is still to be read from here. Assumes nothing.
use mathlib.Core.Path.{◌≡◌, refl, sym, ◌∙◌, ap}
use mathlib.Core.List.{List, [], ◌∷◌, ◌++◌, append_assoc, append-nil}
use Prim.Native.Nat.{ℕ, zero, suc, ◌+◌, ◌-◌, ◌%◌, min, max, ◌≤◌, ◌<◌}
use native.Mathlib.Nat.{add-zero, sub-zero}
use native.Mathlib.Omega.{arith}
use lib.ListN.{length, set, replicate, length-append}
use Rattle.getbits.specs.Chain.{then}
use Rattle.getbits.specs.declared.Place.{Place}
use Rattle.codes.specs.Codes.{get_uniform}
use Rattle.codes.proofs.Callers.{uniform_lt}
use Rattle.tile_layout.specs.Layout as layout
use Rattle.tile_layout.specs.Layout.{read_sizes, starts_from, sum, widest, padded}
use Rattle.tile_layout.proofs.Laws.{sum_append, grow}
use Rattle.tile_layout.proofs.Sized.{length_starts}
use Rattle.tile_info.specs.declared.nonuniform.Sizes.{Sizes}
use Rattle.tile_info.specs.Inner.{SizesOf}

widest_more : (xs : List ℕ) (v : ℕ) → widest (xs ++ (v ∷ [])) ≡ max (widest xs) v
unfolding widest
widest_more [] v = omega arith
widest_more (x ∷ xs) v = omega (arith, widest_more xs v)

starts_more : (xs : List ℕ) (at v : ℕ) → starts_from at (xs ++ (v ∷ [])) ≡ starts_from at xs ++ ((at + sum xs) ∷ [])
unfolding starts_from sum
starts_more [] at v = ap (λ (k : ℕ). k ∷ []) (sym (add-zero at))
starts_more (x ∷ xs) at v =
    let q : at + x + sum xs ≡ at + (x + sum xs) = omega arith in
    ap (◌∷◌ at) (starts_more xs (at + x) v ∙ ap (λ (k : ℕ). starts_from (at + x) xs ++ (k ∷ [])) q)

-- sizes, and further ones behind them
abbrev behind : List ℕ → layout.Sizes → layout.Sizes
behind xs z = record { sizes = xs ++ z.sizes; next = z.next }

-- the first size, and the sizes behind it
unroll : (most : ℕ) (s : List ℕ) (p : Place) (remains limit : ℕ) → 1 ≤ remains
    → let g = get_uniform s p (min remains limit) in
    read_sizes (suc most) s p remains limit ≡ behind ((g.value + 1) ∷ []) (read_sizes most s g.next (remains - (g.value + 1)) limit)
unfolding read_sizes then
unroll most s p zero limit h = absurd (omega arith)
unroll most s p (suc n) limit h = refl

nothing_left : (most : ℕ) (s : List ℕ) (p : Place) (limit : ℕ) → read_sizes most s p 0 limit ≡ record { sizes = []; next = p }
unfolding read_sizes
nothing_left zero s p limit = refl
nothing_left (suc most) s p limit = refl

no_more : (s : List ℕ) (p : Place) (remains limit : ℕ) → read_sizes 0 s p remains limit ≡ record { sizes = []; next = p }
unfolding read_sizes
no_more s p remains limit = refl

module _ (s : List ℕ) (total limit : ℕ) (start : Place) (rest : List ℕ) where
  -- n tiles are done, with x superblocks, and the array holds their starts
  pub record Walked (at : List ℕ) (p : Place) (x n wide : ℕ) : Type 0 where
    pub done : List ℕ
    pub all : read_sizes 64 s start total limit ≡ behind done (read_sizes (64 - n) s p (total - x) limit)
    pub tiles : n ≡ length done
    pub summed : x ≡ sum done
    pub wides : wide ≡ widest done
    pub stored : at ≡ padded (starts_from 0 done) ++ rest
    pub inside : x ≤ total
    pub few : n ≤ 64

  pub walk_start : {at : List ℕ} (x wide : ℕ) → at ≡ replicate 65 0 ++ rest → x ≡ 0 → wide ≡ 0 → Walked at start x 0 wide
  unfolding sum widest starts_from
  walk_start x wide d e f =
      rw (d, e, f)
      (record {
        done = [];
        all = ap (λ (k : ℕ). read_sizes 64 s start k limit) (sym (sub-zero total));
        tiles = refl;
        summed = refl;
        wides = refl;
        stored = refl;
        inside = omega arith;
        few = omega arith;
      })

  -- one size more, z, as the program has it
  pub walk_next : {at then_at : List ℕ} {p q : Place} {x n wide z y v r : ℕ} → Walked at p x n wide → x < total → n < 64 → total ≤ 1024 → 1 ≤ limit
      → r ≡ total - x → z ≡ (get_uniform s p (min r limit)).value + 1 → q ≡ (get_uniform s p (min r limit)).next
      → then_at ≡ set at n (x % 65536) → y ≡ max wide z → v ≡ (x + z) % 4294967296
      → Walked then_at q v (n + 1) y
  unfolding sum
  walk_next {at} {then_at} {p} {q} {x} {n} {wide} {z} {y} {v} {r} w h k low some er ez eq ea ey ev =
      let f : 64 - n ≡ suc (64 - (n + 1)) = omega arith in
      let zr : z ≤ r = omega (arith, uniform_lt s p (min r limit) (omega arith)) in
      let j : r - z ≡ total - (x + z) = omega arith in
      let g : x % 65536 ≡ 0 + sum w.done = omega (arith, w.summed, w.inside) in
      let e : v ≡ x + z = omega (arith, w.inside) in
      rw e
      (record {
        done = w.done ++ (z ∷ []);
        all =
            w.all
            ∙ ap (λ (m : ℕ). behind w.done (read_sizes m s p (total - x) limit)) f
            ∙ ap (λ (m : ℕ). behind w.done (read_sizes (suc (64 - (n + 1))) s p m limit)) (sym er)
            ∙ ap (behind w.done) (unroll (64 - (n + 1)) s p r limit (omega arith))
            ∙ rw (← ez, ← eq, j, append_assoc) refl;
        tiles = omega (arith, w.tiles, length-append w.done (z ∷ []));
        summed = omega (arith, w.summed, sum_append w.done (z ∷ []));
        wides = omega (arith, w.wides, widest_more w.done z);
        stored =
            ea
            ∙ rw w.stored (grow (starts_from 0 w.done) rest n (x % 65536) (length_starts w.done 0 ∙ sym w.tiles) (omega arith))
            ∙ ap (λ (l : List ℕ). padded l ++ rest) (ap (λ (m : ℕ). starts_from 0 w.done ++ (m ∷ [])) g ∙ sym (starts_more w.done 0 z));
        inside = omega arith;
        few = omega arith;
      })

  -- the loop is left: what was done is what is read
  ended : {at : List ℕ} (r : Sizes) (w : Walked at r.next r.sum.0 r.tiles r.widest.0)
      → read_sizes (64 - r.tiles) s r.next (total - r.sum.0) limit ≡ record { sizes = []; next = r.next }
      → SizesOf (read_sizes 64 s start total limit) r rest at
  ended r w e =
      rw (w.all ∙ ap (behind w.done) e ∙ ap (λ (t : List ℕ). record { sizes = t; next = r.next }) (append-nil w.done))
      (record { counted = w.tiles; summed = w.summed; wides = w.wides; stands = refl; stored = w.stored; few = w.few })

  pub all_done : {at : List ℕ} (r : Sizes) → Walked at r.next r.sum.0 r.tiles r.widest.0 → total ≤ r.sum.0 → SizesOf (read_sizes 64 s start total limit) r rest at
  all_done r w h =
      let q : total - r.sum.0 ≡ 0 = omega arith in
      ended r w (rw q (nothing_left (64 - r.tiles) s r.next limit))

  pub all_used : {at : List ℕ} (r : Sizes) → Walked at r.next r.sum.0 r.tiles r.widest.0 → 64 ≤ r.tiles → SizesOf (read_sizes 64 s start total limit) r rest at
  all_used r w h =
      let q : 64 - r.tiles ≡ 0 = omega arith in
      ended r w (rw q (no_more s r.next (total - r.sum.0) limit))
