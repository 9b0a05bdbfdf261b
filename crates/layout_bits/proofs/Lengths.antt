-- How many bits a layout has at most. Assumes nothing.
use mathlib.Core.Path.{◌≡◌}
use mathlib.Core.List.{List, [], ◌∷◌, ◌++◌}
use Prim.Native.Nat.{ℕ, ◌+◌, ◌-◌, ◌*◌, ◌^◌, min, ◌≤◌, ◌<◌}
use native.Mathlib.Nat.{lt_of_le_of_lt, lt_of_lt_of_le, mul-suc}
use native.Mathlib.Omega.{arith}
use borrow.Author.Tests.{leb-false}
use lib.Dec.{leb, ltb}
use lib.ListN.{length, replicate, length-append, length-replicate}
use lib.Pow.{pow_mono}
use Rattle.getbits.proofs.Chain.{picked}
use Rattle.codes.specs.Codes.{bit_length}
use Rattle.codes.proofs.Callers.{length_is, pow_lt_only}
use Rattle.tile_layout.specs.declared.TileArgs.{TileArgs}
use Rattle.tile_layout.specs.declared.TileInfo.{TileInfo}
use Rattle.tile_layout.specs.Limits.{sbw, sbh, width_limit, min_log2_cols, max_log2_cols, max_log2_rows, min_log2_tiles}
use Rattle.tile_layout.specs.Layout.{widest, row_limit, uniform_info}
use Rattle.tile_layout.proofs.Domain.{InDomain, across, down}
use Rattle.tile_layout.proofs.Area.{max_cols, max_rows}
use Rattle.layout_bits.specs.Bits.{shorter, uniform_code, ones_code, log_code, sizes_code, logs_code, sides_code, layout_bits}
use Rattle.layout_bits.specs.Readable.{Readable, even, sized}
use Rattle.layout_bits.proofs.Numbers.{length_bits}
use Rattle.layout_bits.proofs.Layouts.{logs_are, sides_are}

-- a number below 2 ^ n has at most n bits
uniform_length : (n max v : ℕ) → max < 2 ^ n → n ≤ 31 → length (uniform_code max v) ≤ n
unfolding uniform_code
uniform_length n max v h l =
    picked (λ (x : List ℕ). length x ≤ n) (leb max 1) [] _ (λ _. omega arith)
    (λ e.
    let lo = leb-false max 1 e in
    let is = length_is max (omega arith) (lt_of_lt_of_le h (pow_mono l)) in
    let k = pow_lt_only (bit_length max - 1) n (lt_of_le_of_lt is.3 h) in
    picked (λ (x : List ℕ). length x ≤ n) (ltb v (shorter max)) _ _
    (λ _. omega (arith, length_bits (bit_length max - 1) v))
    (λ _. omega (arith, length_bits (bit_length max) (v + shorter max))))

sizes_length : (n remains limit : ℕ) (zs : List ℕ) → remains < 2 ^ n → n ≤ 31 → length (sizes_code remains limit zs) ≤ n * length zs
unfolding sizes_code
sizes_length n remains limit [] h l = omega arith
sizes_length n remains limit (z ∷ zs) h l =
    let first = uniform_code (min remains limit) (z - 1) in
    let others = sizes_code (remains - z) limit zs in
    omega (arith, length-append first others, uniform_length n (min remains limit) (z - 1) (omega arith) l, sizes_length n (remains - z) limit zs (omega arith) l, mul-suc n (length zs))

ones_length : (most n : ℕ) → length (ones_code most n) ≤ n + 1
unfolding ones_code
ones_length most n =
    let ones : List ℕ = replicate n 1 in
    let l : length ones ≡ n = length-replicate n 1 in
    picked (λ (x : List ℕ). length (ones ++ x) ≤ n + 1) (ltb n most) (0 ∷ []) []
    (λ _. omega (arith, length-append ones (0 ∷ [])))
    (λ _. omega (arith, length-append ones []))

pub layout_length : (old : TileInfo) (a : TileArgs) (t : TileInfo) → InDomain a → Readable old a t → length (layout_bits a t) ≤ 1409
unfolding logs_code sides_code uniform_info
layout_length old a t d (even c r g h q) =
    let x = log_code (min_log2_cols a) (max_log2_cols a) c in
    let y = log_code (min_log2_tiles a - c) (max_log2_rows a) r in
    rw (q, logs_are a c r) (omega (arith, length-append x y, ones_length (max_log2_cols a - min_log2_cols a) (c - min_log2_cols a), ones_length (max_log2_rows a - (min_log2_tiles a - c)) (r - (min_log2_tiles a - c)), max_cols a d, max_rows a d, g.high, h.high))
layout_length old a t d (sized w h f g q) =
    let x = sizes_code (sbw a) (width_limit a) w in
    let y = sizes_code (sbh a) (row_limit a (widest w)) h in
    rw (q, sides_are old a w h f.adds g.adds)
    (omega (arith, length-append x y, sizes_length 11 (sbw a) (width_limit a) w (omega (arith, (across a d).most_all)) (omega arith), sizes_length 11 (sbh a) (row_limit a (widest w)) h (omega (arith, (down a d).most_all)) (omega arith), f.few, g.few))
