-- Some bits read as a record exactly when its own do. Assumes nothing.
use mathlib.Core.Bool.{true, false}
use mathlib.Core.List.{List}
use mathlib.Core.Path.{◌≡◌, refl, ◌∙◌}
use Prim.Native.Nat.{ℕ, ◌*◌, ◌≤◌}
use native.Mathlib.Omega.{arith}
use lib.ListN.{length}
use Rattle.getbits.specs.Bits.{position, place_at}
use Rattle.getbits.specs.declared.Place.{Place}
use Rattle.getbits.proofs.Places.{pos_at}
use Rattle.tile_layout.specs.declared.TileArgs.{TileArgs}
use Rattle.tile_layout.specs.declared.TileInfo.{TileInfo}
use Rattle.tile_layout.specs.Limits.{in_domain, no_tile_info}
use Rattle.tile_layout.proofs.Domain.{domain}
use Rattle.tile_layout.proofs.Demand3.{accepted_in, all_accepted}
use Rattle.layout_bits.specs.Rows.{StandsAt, Used, used_bits, byte_count, bytes_of, packed}
use Rattle.layout_bits.specs.Bits.{layout_bits}
use Rattle.layout_bits.specs.Readable.{Readable}
use Rattle.layout_bits.specs.LayoutCode.{Clean}
use Rattle.layout_bits.proofs.Rows.{between}
use Rattle.layout_bits.proofs.Layouts.{layout_code}
use Rattle.layout_bits.proofs.Lengths.{layout_length}
use Rattle.layout_bits.proofs.Packed.{bytes_stand, small_layout}
use Rattle.layout_writing.specs.Write.{fresh, again, reads_as}
use Rattle.layout_writing.specs.Promises.{SomeBits}
use Rattle.layout_writing.proofs.Same.{reads_only, reads_same}

-- ---- a record that some bits read as

-- from p its bits are read as t, and just they are used
pub record Back (s : List ℕ) (p : Place) (a : TileArgs) (t : TileInfo) : Type 0 where
  pub accepted : p.error ≡ false → Clean (fresh s p a)
  pub gives : (fresh s p a).info ≡ t
  pub just : Used s p (fresh s p a).next (layout_bits a t)

module _ (a : TileArgs) (t : TileInfo) (b : SomeBits a t) where
  pub domained : in_domain a ≡ true
  domained = accepted_in b.bytes b.place no_tile_info a b.clean.accepted

  used : Readable no_tile_info a t × Used b.bytes b.place (fresh b.bytes b.place a).next (layout_bits a t)
  used = rw b.gives at (layout_code.used b.bytes b.place no_tile_info a b.clean)

  -- its bits are those that were used
  pub row_is : used_bits b.bytes b.place (fresh b.bytes b.place a).next ≡ layout_bits a t
  row_is = between used.1

  -- where they stand, t is read
  pub back : (s : List ℕ) (p : Place) → StandsAt s (position s p) (layout_bits a t) → Back s p a t
  back s p st =
      let r = layout_code.reads s p no_tile_info a t domained used.0 st in
      record { accepted = λ e. record { accepted = r.accepted; unset = r.just.error ∙ e }; gives = r.gives; just = r.just }

  -- at most 64 columns and rows, and 1,409 bits
  pub few : (t.cols ≤ 64) × (t.rows ≤ 64)
  few =
      let x = all_accepted b.bytes b.place no_tile_info a b.clean.accepted in
      rw (← b.gives) (x.most_cols, x.most_rows)

  pub short : length (layout_bits a t) ≤ 1409
  short = layout_length no_tile_info a t (domain a domained) used.0

-- ---- read from bytes that begin with its bits

abbrev pub start : Place
start = place_at 0 false

pub from_start : (s bits : List ℕ) → StandsAt s 0 bits → StandsAt s (position s start) bits
from_start s bits st = rw (pos_at s 0 false (omega arith)) st

module _ (a : TileArgs) (t : TileInfo) where
  abbrev bits : List ℕ
  bits = layout_bits a t

  pub stands : (n : ℕ) → length bits ≤ 8 * n → StandsAt (bytes_of n bits) 0 bits
  stands n h = bytes_stand n bits h (small_layout a t)

  -- any bytes that hold them
  pub reads_on : SomeBits a t → (s : List ℕ) → StandsAt s 0 bits → reads_as (fresh s start a) t ≡ true
  reads_on b s st =
      let r = back a t b s start (from_start s bits st) in
      reads_same (fresh s start a) t (r.accepted refl) r.gives

  abbrev pub some_bits : (s : List ℕ) (p : Place) → reads_as (fresh s p a) t ≡ true → SomeBits a t
  some_bits s p h =
      let r = reads_only (fresh s p a) t h in
      record { bytes = s; place = p; clean = r.0; gives = r.1 }

  -- so its own bits, padded, decide
  pub own : SomeBits a t → reads_as (again a t) t ≡ true
  own b = reads_on b (packed bits) (stands (byte_count bits) (omega arith))
