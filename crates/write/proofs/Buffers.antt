-- The buffer that is lent. Assumes nothing.
use mathlib.Core.Bool.{false}
use mathlib.Core.List.{List}
use mathlib.Core.Path.{◌≡◌, refl}
use Prim.Native.Nat.{ℕ, ◌+◌, ◌-◌, ◌/◌, ◌≤◌}
use native.Mathlib.Omega.{arith}
use lib.Dec.{leb}
use lib.ListN.{length, take, drop, replicate, length-append, length-replicate, replicate-append-replicate}
use lib.Seq.{take_at}
use Rattle.answers.specs.Numbers.{is_refusal}
use Rattle.getbits.proofs.Chain.{contrary, picked}
use Rattle.layout_bits.specs.Rows.{byte_count, packed}
use Rattle.layout_bits.specs.Bits.{layout_bits}
use Rattle.layout_bits.proofs.Packed.{bytes_length}
use Rattle.tile_layout.specs.declared.TileArgs.{TileArgs}
use Rattle.tile_layout.specs.declared.TileInfo.{TileInfo}
use Rattle.tile_layout.specs.Limits.{in_domain}
use Rattle.layout_writing.specs.declared.Written.{Written}
use Rattle.layout_writing.specs.Write.{again, reads_as, write_tile_info}
use Rattle.layout_writing.proofs.Reading.{start, short, some_bits}

-- the first n of m equal numbers
pub front : (x n m : ℕ) → n ≤ m → take n (replicate m x) ≡ replicate n x
front x n m h =
    let all : n + (m - n) ≡ m = omega arith in
    rw (← all, ← replicate-append-replicate n (m - n) x) (take_at (replicate n x) (replicate (m - n) x) n (length-replicate n x))

-- accepted, there are at most 177 bytes, and the buffer has them
abbrev Few : Written × List ℕ → Type 0
Few z = is_refusal z.0.answer ≡ false → ((z.0.bits + 7) / 8 ≤ 177) × ((z.0.bits + 7) / 8 ≤ length z.1)

pub few : (a : TileArgs) (t : TileInfo) (out : List ℕ) (z : Written × List ℕ) → z ≡ write_tile_info a t out → Few z
unfolding write_tile_info
few a t out z e =
    let bits = layout_bits a t in
    rw e
    (picked Few (in_domain a) _ _
    (λ _. picked Few (reads_as (again a t) t) _ _
    (λ r. picked Few (leb (byte_count bits) (length out)) _ _
    (λ _ _. (omega (arith, short a t (some_bits a t (packed bits) start r)), omega (arith, length-append (packed bits) (drop (byte_count bits) out), bytes_length (byte_count bits) bits)))
    (λ _. contrary refl))
    (λ _. contrary refl))
    (λ _. contrary refl))
