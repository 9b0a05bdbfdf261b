-- As the code reads it: from 177 bytes with the row of bits in front. Assumes nothing.
use mathlib.Core.Bool.{Bool, true, false}
use mathlib.Core.Path.{◌≡◌, refl, sym}
use native.Mathlib.Omega.{arith}
use borrow.Author.Tests.{le-leb}
use Rattle.getbits.proofs.Chain.{both_hold, taken}
use Rattle.tile_layout.specs.declared.TileArgs.{TileArgs}
use Rattle.tile_layout.specs.declared.TileInfo.{TileInfo}
use Rattle.layout_bits.specs.Rows.{bytes_of}
use Rattle.layout_bits.specs.Bits.{layout_bits}
use Rattle.layout_row.specs.Row.{row_of}
use Rattle.layout_writing.specs.Write.{fresh, again, reads_as}
use Rattle.layout_writing.specs.Promises.{SomeBits}
use Rattle.layout_writing.proofs.Reading.{domained, few, short, start, stands, reads_on, some_bits, own}

module _ (a : TileArgs) (t : TileInfo) (b : SomeBits a t) where
  pub row_known : row_of a t ≡ layout_bits a t
  unfolding row_of
  row_known = taken _ _ _ (both_hold (both_hold (domained a t b) (le-leb _ _ (few a t b).0)) (le-leb _ _ (few a t b).1))

-- two answers that imply each other are the same
same_bool : (a b : Bool) → (a ≡ true → b ≡ true) → (b ≡ true → a ≡ true) → a ≡ b
same_bool true b f g = sym (f refl)
same_bool false true f g = g refl
same_bool false false f g = refl

pub asked : (a : TileArgs) (t : TileInfo) → reads_as (fresh (bytes_of 177 (row_of a t)) start a) t ≡ reads_as (again a t) t
asked a t =
    same_bool _ _
    (λ h. own a t (some_bits a t _ start h))
    (λ h.
    let b = some_bits a t _ start h in
    rw (row_known a t b) (reads_on a t b (bytes_of 177 (layout_bits a t)) (stands a t 177 (omega (arith, short a t b)))))
