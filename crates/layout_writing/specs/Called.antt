-- What Writing says, of one call of write_tile_info.
use Rattle.std.specs.Prelude.{◌≡◌, true, false, List, ℕ, ◌+◌, ◌/◌, ◌≤◌, length, drop}
use Rattle.answers.specs.Numbers.{number_of, is_refusal}
use Rattle.getbits.specs.declared.Place.{Place}
use Rattle.laws.specs.Sound.{Agree}
use Rattle.tile_layout.specs.declared.TileArgs.{TileArgs}
use Rattle.tile_layout.specs.declared.TileInfo.{TileInfo}
use Rattle.tile_layout.specs.Limits.{in_domain, no_tile_info}
use Rattle.layout_bits.specs.Rows.{used_bits, byte_count}
use Rattle.layout_bits.specs.Readable.{Readable}
use Rattle.layout_bits.specs.LayoutCode.{Clean}
use Rattle.layout_writing.specs.declared.Written.{Written}
use Rattle.layout_writing.specs.Write.{fresh, written}
use Rattle.layout_writing.specs.Promises.{SomeBits, Bytes, ReadsAs}

-- what a call for the arguments a and the record t promises of its answer w, and of the buffer before and after it
pub record WritingOf (a : TileArgs) (t : TileInfo) (before : List ℕ) (w : Written) (after : List ℕ) : Type 0 where
  -- WRITE, THEN READ: what is written reads as the record and uses as many bits as were told, and so does every s with those bits in front,
  -- whatever stands behind them
  pub itself : is_refusal w.answer ≡ false → ReadsAs after w.bits a t
  pub in_front : is_refusal w.answer ≡ false → (s : List ℕ) → Agree after s 0 w.bits → ReadsAs s w.bits a t
  -- READ, THEN WRITE: where a reading from any place, accepted without error, gave the record, the bits that it used are written, if there is room
  pub read_write : (s : List ℕ) (p : Place) → Clean (fresh s p a) → (fresh s p a).info ≡ t
      → (let bits = used_bits s p (fresh s p a).next in byte_count bits ≤ length before → (w, after) ≡ written bits before)
  -- 8 exactly when no bits of any byte string read as the record
  pub refused_with_8 : in_domain a ≡ true → ((b : SomeBits a t) → Bytes b.bytes → ⊥) → number_of w.answer ≡ 8
  pub only_then : number_of w.answer ≡ 8 → SomeBits a t → ⊥
  -- bytes behind the last one written are kept; refused, all are, and no bit is told
  pub behind : is_refusal w.answer ≡ false → drop ((w.bits + 7) / 8) after ≡ drop ((w.bits + 7) / 8) before
  pub unwritten : is_refusal w.answer ≡ true → (w.bits ≡ 0) × (after ≡ before)
  -- some bits read as each record that can be read
  pub readable : in_domain a ≡ true → Readable no_tile_info a t → SomeBits a t
  -- 177 bytes suffice for every record
  pub enough : 177 ≤ length before → number_of w.answer ≡ 5 → ⊥
