-- What write_tile_info promises: request #106.
use Rattle.std.specs.Prelude.{◌≡◌, true, false, List, ℕ, ◌+◌, ◌/◌, ◌≤◌, ◌<◌, length, get_or, drop}
use Rattle.answers.specs.Numbers.{number_of, is_refusal}
use Rattle.getbits.specs.Bits.{position, place_at}
use Rattle.getbits.specs.declared.Place.{Place}
use Rattle.laws.specs.Sound.{Agree}
use Rattle.tile_layout.specs.declared.TileArgs.{TileArgs}
use Rattle.tile_layout.specs.declared.TileInfo.{TileInfo}
use Rattle.tile_layout.specs.Limits.{in_domain, no_tile_info}
use Rattle.layout_bits.specs.Rows.{used_bits, byte_count}
use Rattle.layout_bits.specs.Readable.{Readable}
use Rattle.layout_bits.specs.LayoutCode.{Clean}
use Rattle.layout_writing.specs.Write.{fresh, written, write_tile_info}

-- some bits read as t: from a place in a byte string a reading is accepted without error and gives t
pub record SomeBits (a : TileArgs) (t : TileInfo) : Type 0 where
  pub bytes : List ℕ
  pub place : Place
  pub clean : Clean (fresh bytes place a)
  pub gives : (fresh bytes place a).info ≡ t

-- s is a byte string: each number of it is below 256
abbrev pub Bytes : List ℕ → Type 0
Bytes s = (k : ℕ) → get_or s k 0 < 256

-- from its first bit on, s reads as t, and n bits are used
pub record ReadsAs (s : List ℕ) (n : ℕ) (a : TileArgs) (t : TileInfo) : Type 0 where
  pub clean : Clean (fresh s (place_at 0 false) a)
  pub gives : (fresh s (place_at 0 false) a).info ≡ t
  pub uses : position s (fresh s (place_at 0 false) a).next ≡ n

pub record Writing : Type 0 where
  -- WRITE, THEN READ: what is written reads as the record and uses as many bits as were told, and so does every s with those bits in front,
  -- whatever stands behind them
  pub itself : (a : TileArgs) (t : TileInfo) (out : List ℕ)
      → (let w = write_tile_info a t out in is_refusal w.0.answer ≡ false → ReadsAs w.1 w.0.bits a t)
  pub in_front : (a : TileArgs) (t : TileInfo) (out s : List ℕ)
      → (let w = write_tile_info a t out in is_refusal w.0.answer ≡ false → Agree w.1 s 0 w.0.bits → ReadsAs s w.0.bits a t)
  -- READ, THEN WRITE: what a reading from any place gave, accepted without error, is written as the bits that it used, where there is room
  pub read_write : (s : List ℕ) (p : Place) (a : TileArgs) (out : List ℕ) → Clean (fresh s p a)
      → (let bits = used_bits s p (fresh s p a).next in byte_count bits ≤ length out → write_tile_info a (fresh s p a).info out ≡ written bits out)
  -- 8 exactly when no bits of any byte string read as the record
  pub refused_with_8 : (a : TileArgs) (t : TileInfo) (out : List ℕ) → in_domain a ≡ true → ((b : SomeBits a t) → Bytes b.bytes → ⊥)
      → number_of (write_tile_info a t out).0.answer ≡ 8
  pub only_then : (a : TileArgs) (t : TileInfo) (out : List ℕ) → number_of (write_tile_info a t out).0.answer ≡ 8 → SomeBits a t → ⊥
  -- bytes behind the last one written are kept; refused, all are, and no bit is told
  pub behind : (a : TileArgs) (t : TileInfo) (out : List ℕ)
      → (let w = write_tile_info a t out in is_refusal w.0.answer ≡ false → drop ((w.0.bits + 7) / 8) w.1 ≡ drop ((w.0.bits + 7) / 8) out)
  pub unwritten : (a : TileArgs) (t : TileInfo) (out : List ℕ)
      → (let w = write_tile_info a t out in is_refusal w.0.answer ≡ true → (w.0.bits ≡ 0) × (w.1 ≡ out))
  -- some bits read as each record that can be read
  pub readable : (a : TileArgs) (t : TileInfo) → in_domain a ≡ true → Readable no_tile_info a t → SomeBits a t
  -- 177 bytes suffice for every record
  pub enough : (a : TileArgs) (t : TileInfo) (out : List ℕ) → 177 ≤ length out → number_of (write_tile_info a t out).0.answer ≡ 5 → ⊥
