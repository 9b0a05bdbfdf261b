use Prim.Native.Nat.{ℕ, ◌+◌, ◌*◌, ◌≤◌, ◌<◌}
use native.Mathlib.Nat.{mul-le-mul}
use native.Mathlib.Omega.{arith}
use Rattle.drawing.proofs.Products.{drawn}
use Rattle.drawing.specs.Picture.{lines_text}
use Rattle.text.proofs.Chains.{also, sizes}
use Rattle.drawing.proofs.put_lines.Goals as goal

-- where superblock i ends
ends : (side i : ℕ) → side ≤ 256 → i < 63 → side * (i + 1) ≤ 16384
ends side i p q = let h : i + 1 ≤ 64 = omega arith in mul-le-mul p h

pub overflow_mul-n : goal.overflow_mul-n
overflow_mul-n g c = omega (arith, ends _ _ c.requires.1 c.requires.2)

pub overflow_mul-w : goal.overflow_mul-w
overflow_mul-w g c = omega (arith, drawn c.args.v.x c.from.result c.requires.0.across (omega arith))

pub overflow_mul-h : goal.overflow_mul-h
overflow_mul-h g c = omega (arith, drawn c.args.v.y c.from-2.result c.requires.0.down (omega arith))

pub overflow_mul-v : goal.overflow_mul-v
overflow_mul-v g c = omega (arith, drawn c.args.v.x c.from-3.result c.requires.0.across (omega (arith, ends _ _ c.requires.1 c.requires.2)))

pub overflow_mul-v-2 : goal.overflow_mul-v-2
overflow_mul-v-2 g c = omega (arith, drawn c.args.v.y c.from-4.result c.requires.0.down (omega (arith, ends _ _ c.requires.1 c.requires.2)))

pub returns : goal.returns
unfolding lines_text
returns g c =
    let p = rw (c.is_line.ensures, c.from-3.ensures, c.from-2.ensures) at c.put_line_if.ensures in
    let q = rw (c.is_line-2.ensures, c.from-4.ensures, c.from.ensures) at c.put_line_if-2.ensures in
    record { text = also _ _ _ _ p.text q.text; size = omega (arith, sizes _ _ p.size q.size) }
