-- Bits padded to bytes stand there. Assumes nothing.
use mathlib.Core.Path.{◌≡◌, sym, ap, ◌∙◌}
use mathlib.Core.List.{List, [], ◌∷◌, ◌++◌}
use mathlib.Core.Logic.{⊎_elim}
use Prim.Native.Nat.{ℕ, zero, suc, ◌+◌, ◌-◌, ◌*◌, ◌/◌, ◌%◌, ◌^◌, ◌≤◌, ◌<◌}
use native.Mathlib.Nat.{zero-add}
use native.Mathlib.Omega.{arith}
use lib.Dec.{leb, ltb}
use lib.ListN.{length, get_or, take, replicate, length-take, get_or-eq_default}
use lib.Seq.{get_or-take, ext_get_or}
use Rattle.getbits.specs.Bits.{bit_at}
use Rattle.getbits.proofs.Chain.{picked}
use Rattle.getbits.proofs.Fields.{bit_of_lem}
use Rattle.getbits.proofs.Places.{lt_or_le}
use Rattle.tile_layout.proofs.Laws.{length_tabulate, get_d_tabulate}
use Rattle.tile_layout.specs.declared.TileArgs.{TileArgs}
use Rattle.tile_layout.specs.declared.TileInfo.{TileInfo}
use Rattle.layout_bits.specs.Rows.{StandsAt, byte_of, bytes_of}
use Rattle.layout_bits.specs.Bits.{bits_of, shorter, uniform_code, ones_code, sizes_code, logs_code, sides_code, layout_bits}

-- bits are 0 or 1
pub record Small (bits : List ℕ) : Type 0 where
  pub each : (k : ℕ) → get_or bits k 0 < 2

pub bytes_length : (n : ℕ) (bits : List ℕ) → length (bytes_of n bits) ≡ n
unfolding bytes_of
bytes_length n bits = length_tabulate _ 0 n

-- byte j
pub byte_at_lem : (n : ℕ) (bits : List ℕ) (j : ℕ) → j < n → get_or (bytes_of n bits) j 0 ≡ byte_of (λ k. get_or bits (8 * j + k) 0)
unfolding bytes_of
byte_at_lem n bits j h = rw (zero-add j) at (get_d_tabulate (λ i. byte_of (λ k. get_or bits (8 * i + k) 0)) 0 n j h)

-- its first bytes
pub bytes_take : (n m : ℕ) (bits : List ℕ) → n ≤ m → take n (bytes_of m bits) ≡ bytes_of n bits
bytes_take n m bits h =
    let l : length (take n (bytes_of m bits)) ≡ n = omega (arith, length-take n (bytes_of m bits), bytes_length m bits) in
    ext_get_or 0 (take n (bytes_of m bits)) (bytes_of n bits) (l ∙ sym (bytes_length n bits)) (λ j g.
    let j< : j < n = omega (arith, l) in
    get_or-take n (bytes_of m bits) j 0 j< ∙ byte_at_lem m bits j (omega arith) ∙ sym (byte_at_lem n bits j j<))

-- eight cases
pub below_8 : (P : ℕ → Type 0) → P 0 × P 1 × P 2 × P 3 × P 4 × P 5 × P 6 × P 7 → (r : ℕ) → r < 8 → P r
below_8 P d zero h = d.0
below_8 P d (suc zero) h = d.1
below_8 P d (suc (suc zero)) h = d.2
below_8 P d (suc (suc (suc zero))) h = d.3
below_8 P d (suc (suc (suc (suc zero)))) h = d.4
below_8 P d (suc (suc (suc (suc (suc zero))))) h = d.5
below_8 P d (suc (suc (suc (suc (suc (suc zero)))))) h = d.6
below_8 P d (suc (suc (suc (suc (suc (suc (suc zero))))))) h = d.7
below_8 P d (suc (suc (suc (suc (suc (suc (suc (suc r)))))))) h = absurd (omega arith)

-- a byte has the bits that it is made of
digit : (b : ℕ → ℕ) → ((k : ℕ) → b k < 2) → (r : ℕ) → r < 8 → byte_of b / 2 ^ (7 - r) % 2 ≡ b r
digit b s = below_8 (λ r. byte_of b / 2 ^ (7 - r) % 2 ≡ b r) (omega (arith, s 0, s 1, s 2, s 3, s 4, s 5, s 6, s 7))

-- bit k stands in byte k / 8
pub bytes_stand : (n : ℕ) (bits : List ℕ) → length bits ≤ 8 * n → Small bits → StandsAt (bytes_of n bits) 0 bits
bytes_stand n bits l b =
    record {
      there = omega (arith, bytes_length n bits);
      same = λ k h.
          let e : 0 + k ≡ 8 * (k / 8) + k % 8 = omega arith in
          let f : 8 * (k / 8) + k % 8 ≡ k = omega arith in
          ap (bit_at (bytes_of n bits)) e
          ∙ bit_of_lem (bytes_of n bits) (k / 8) (k % 8) (omega arith)
          ∙ ap (λ (x : ℕ). x / 2 ^ (7 - k % 8) % 2) (byte_at_lem n bits (k / 8) (omega arith))
          ∙ digit (λ i. get_or bits (8 * (k / 8) + i) 0) (λ i. b.each _) (k % 8) (omega arith)
          ∙ ap (λ (i : ℕ). get_or bits i 0) f;
    }

-- eight bits are below 256
pub byte_lt : (b : ℕ → ℕ) → ((k : ℕ) → b k < 2) → byte_of b < 256
byte_lt b s = omega (arith, s 0, s 1, s 2, s 3, s 4, s 5, s 6, s 7)

pub bytes_lt : (n : ℕ) (bits : List ℕ) → Small bits → (j : ℕ) → get_or (bytes_of n bits) j 0 < 256
bytes_lt n bits b j =
    ⊎_elim
    (λ h. rw (byte_at_lem n bits j h) (byte_lt (λ k. get_or bits (8 * j + k) 0) (λ k. b.each _)))
    (λ h. rw (get_or-eq_default (bytes_of n bits) 0 {n = j} (omega (arith, bytes_length n bits))) (omega arith))
    (lt_or_le j n)

-- ---- the bits of a layout are 0 or 1

pub small_none : Small []
small_none = record { each = λ k. omega arith }

-- a bit, and more
pub small_cons : {b : ℕ} {x : List ℕ} → b < 2 → Small x → Small (b ∷ x)
small_cons {b} {x} h s = record { each = λ k. elim k as (λ k. get_or (b ∷ x) k 0 < 2) [ zero ↦ h | suc k ↦ s.each k ] }

pub small_append : {x y : List ℕ} → Small x → Small y → Small (x ++ y)
small_append {x = []} f g = g
small_append {x = b ∷ x} f g = small_cons (f.each 0) (small_append {x = x} (record { each = λ k. f.each (suc k) }) g)

small_bits : (n v : ℕ) → Small (bits_of n v)
unfolding bits_of
small_bits zero v = small_none
small_bits (suc n) v = small_append (small_bits n (v / 2)) (small_cons (omega arith) small_none)

small_uniform : (max v : ℕ) → Small (uniform_code max v)
unfolding uniform_code
small_uniform max v =
    picked Small (leb max 1) [] _ (λ _. small_none) (λ _. picked Small (ltb v (shorter max)) _ _ (λ _. small_bits _ v) (λ _. small_bits _ _))

small_ones : (most n : ℕ) → Small (ones_code most n)
unfolding ones_code
small_ones most n = small_append (ones n) (picked Small (ltb n most) (0 ∷ []) [] (λ _. small_cons (omega arith) small_none) (λ _. small_none))
  where
    ones : (n : ℕ) → Small (replicate n 1)
    ones zero = small_none
    ones (suc n) = small_cons (omega arith) (ones n)

small_sizes : (remains limit : ℕ) (zs : List ℕ) → Small (sizes_code remains limit zs)
unfolding sizes_code
small_sizes remains limit [] = small_none
small_sizes remains limit (z ∷ zs) = small_append (small_uniform _ _) (small_sizes (remains - z) limit zs)

pub small_layout : (a : TileArgs) (t : TileInfo) → Small (layout_bits a t)
unfolding layout_bits logs_code sides_code
small_layout a t =
    picked Small t.uniform _ _
    (λ _. small_cons (omega arith) (small_append (small_ones _ _) (small_ones _ _)))
    (λ _. small_cons (omega arith) (small_append (small_sizes _ _ _) (small_sizes _ _ _)))
