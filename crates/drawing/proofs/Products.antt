-- Products that fit. Assumes nothing.
use Prim.Native.Nat.{ℕ, ◌+◌, ◌*◌, ◌≤◌, ◌<◌}
use native.Mathlib.Nat.{add-mul, mul-le-mul, mul-le-mul_right}
use native.Mathlib.Omega.{arith}

-- a side by what it is stretched
pub stretched : (a s : ℕ) → a ≤ 65536 → s ≤ 65536 → a * s ≤ 4294967296
stretched a s h k = mul-le-mul h k

-- samples as they are drawn
pub drawn : (scale n : ℕ) → scale ≤ 65536000 → n < 4294967296 → scale * n < 500000000000000000
drawn scale n h k = let l : n ≤ 4294967296 = omega arith in omega (arith, mul-le-mul h l)

-- the places of tiles without samples
pub placed : (unit i : ℕ) → unit ≤ 4294967296 → i < 64 → 30 * unit * i < 10000000000000
placed unit i h k = let l : 30 * unit ≤ 128849018880 = omega arith in let m : i ≤ 64 = omega arith in omega (arith, mul-le-mul l m)

-- the tiles before the row j, and those up to it
pub before : {j cols : ℕ} → j < 64 → cols ≤ 64 → j * cols ≤ 4096
before {j} h n = let l : j ≤ 64 = omega arith in mul-le-mul l n

pub rows_before : {j rows : ℕ} (cols : ℕ) → j < rows → j * cols + cols ≤ rows * cols
rows_before {j} {rows} cols h = omega (arith, mul-le-mul_right {m = j + 1} {n = rows} cols (omega arith), add-mul j 1 cols)

-- there are numbers for the row's first tile
pub first_of : (j cols rows most : ℕ) → cols ≤ 64 → rows ≤ 64 → 1 ≤ cols → 4 * (rows * cols) ≤ most → j < rows → (4 * (j * cols) + 4 ≤ most) × (j * cols ≤ 4096)
first_of j cols rows most c r some h l = let k : j < 64 = omega arith in (omega (arith, rows_before cols l), before k c)
