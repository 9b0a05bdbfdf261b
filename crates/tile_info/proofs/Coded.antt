-- The pair of codes of arguments in the domain. Assumes nothing.
use mathlib.Core.Path.{◌≡◌, refl}
use mathlib.Core.Bool.{Bool, true, false}
use Prim.Native.Nat.{ℕ, ◌*◌, ◌≤◌, min, max}
use mir.Val.{bool_byte}
use native.Mathlib.Omega.{arith}
use Rattle.getbits.specs.Chain.{pick}
use Rattle.tile_layout.specs.declared.TileArgs.{TileArgs}
use Rattle.tile_layout.specs.Limits.{in_domain, sbw, sbh, width_limit, area_limit, tile_log2}
use Rattle.tile_layout.proofs.Domain.{domain, low_code, low_seq_code, across, limits}
use Rattle.tile_layout.proofs.Area.{area_low}
use Rattle.superblocks.specs.declared.Pair.{Pair}
use Rattle.superblocks.specs.Counts.{multiplier_of}
use Rattle.superblocks.proofs.Counts.{legal}
use Rattle.tile_info.specs.Inner.{Coded}

module _ {a : TileArgs} {p : Pair} (e : in_domain a ≡ true) (k : Coded a p) where
  pub frame_code_lem : min p.frame_code 2 ≡ a.frame_code
  frame_code_lem = omega (arith, k.of_frame, low_code a (domain a e))

  pub seq_code : min p.seq_code 2 ≡ a.seq_code
  seq_code = omega (arith, k.of_seq, low_seq_code a (domain a e))

  pub multiplied : multiplier_of p.frame_code p.seq_code ≡ a.multiplier
  multiplied = rw (k.of_frame, k.of_seq) (legal _ _ _ (domain a e).pair)

-- the limits and the frame are as the logarithms take them
pub held_width : (a : TileArgs) {x y : ℕ} → in_domain a ≡ true → x ≡ width_limit a → y ≡ sbw a → tile_log2 (max 1 x) (min y 1048576) ≡ tile_log2 (width_limit a) (sbw a)
held_width a e u v =
    let d = domain a e in
    let i : max 1 (width_limit a) ≡ width_limit a = omega (arith, (limits a d).some) in
    let j : min (sbw a) 1048576 ≡ sbw a = omega (arith, (across a d).most_all) in
    rw (u, v, i, j) refl

pub held_area : (a : TileArgs) {x y : ℕ} → in_domain a ≡ true → x ≡ area_limit a → y ≡ sbw a * sbh a → tile_log2 (max 1 x) (min y 1048576) ≡ tile_log2 (area_limit a) (sbw a * sbh a)
held_area a e u v =
    let d = domain a e in
    let i : max 1 (area_limit a) ≡ area_limit a = omega (arith, (limits a d).some, (limits a d).under) in
    let j : min (sbw a * sbh a) 1048576 ≡ sbw a * sbh a = omega (arith, area_low a d) in
    rw (u, v, i, j) refl

-- the area is small
pub whole : (a : TileArgs) {x y : ℕ} → in_domain a ≡ true → x ≡ sbw a → y ≡ sbh a → min (x * y) 4294967295 ≡ sbw a * sbh a
whole a e u v = rw (u, v) (omega (arith, area_low a (domain a e)))

-- a flag as a number
pub flag : {n : ℕ} (b : Bool) → n ≡ bool_byte b → (n ≡ pick b 1 0) × (n ≤ 1)
flag true e = (e, omega (arith, e))
flag false e = (e, omega (arith, e))
