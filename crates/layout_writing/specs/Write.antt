-- A layout written as bits: request #106. Reading here is parse_tile_info over the zero record.
use Rattle.std.specs.Prelude.{Bool, true, false, not, ◌&&◌, List, [], ◌∷◌, ◌++◌, ℕ, leb, eqb, length, drop}
use Rattle.answers.specs.Numbers.{is_refusal}
use Rattle.answers.specs.declared.Answer.{Answer}
use Rattle.answers.specs.declared.Answer.TheVariants.{Accepted, WrongArguments, ShortBuffer, NoSuchLayout}
use Rattle.getbits.specs.Bits.{place_at}
use Rattle.getbits.specs.Chain.{pick}
use Rattle.getbits.specs.declared.Place.{Place}
use Rattle.tile_layout.specs.declared.TileArgs.{TileArgs}
use Rattle.tile_layout.specs.declared.TileInfo.{TileInfo}
use Rattle.tile_layout.specs.declared.TileRead.{TileRead}
use Rattle.tile_layout.specs.Limits.{in_domain, no_tile_info}
use Rattle.tile_layout.specs.Layout.{parse_tile_info}
use Rattle.layout_bits.specs.Rows.{byte_count, packed}
use Rattle.layout_bits.specs.Bits.{layout_bits}
use Rattle.layout_writing.specs.declared.Written.{Written}

-- a reading over the zero record
abbrev pub fresh : List ℕ → Place → TileArgs → TileRead
fresh s p a = parse_tile_info s p no_tile_info a

-- are two flags the same?
abbrev pub same_flag : Bool → Bool → Bool
same_flag a b = pick a b (not b)

-- are two lists?
unfoldable pub same_list : List ℕ → List ℕ → Bool
same_list [] [] = true
same_list [] (y ∷ ys) = false
same_list (x ∷ xs) [] = false
same_list (x ∷ xs) (y ∷ ys) = eqb x y && same_list xs ys

-- are the eight numbers beside the flag?
unfoldable pub same_numbers : TileInfo → TileInfo → Bool
same_numbers t u =
    eqb t.min_log2_cols u.min_log2_cols
    && eqb t.max_log2_cols u.max_log2_cols
    && eqb t.log2_cols u.log2_cols
    && eqb t.cols u.cols
    && eqb t.min_log2_rows u.min_log2_rows
    && eqb t.max_log2_rows u.max_log2_rows
    && eqb t.log2_rows u.log2_rows
    && eqb t.rows u.rows

-- are two layouts: all nine numbers, and all starts?
unfoldable pub same_layout : TileInfo → TileInfo → Bool
same_layout t u =
    same_flag t.uniform u.uniform
    && same_numbers t u
    && same_list t.col_start_sb u.col_start_sb
    && same_list t.row_start_sb u.row_start_sb

-- is a reading accepted without error, and does it give t?
unfoldable pub reads_as : TileRead → TileInfo → Bool
reads_as r t = not (is_refusal r.answer) && not r.next.error && same_layout r.info t

-- the bits of t, padded, read from their first one
abbrev pub again : TileArgs → TileInfo → TileRead
again a t = fresh (packed (layout_bits a t)) (place_at 0 false) a

-- a refusal writes no bit
abbrev pub refusal : Answer → Written
refusal answer = record { answer = answer; bits = 0 }

-- a row of bits written: how many, and the buffer: the bits, padded with zero bits to a byte, and behind them what was there
abbrev pub written : List ℕ → List ℕ → Written × List ℕ
written bits out = (record { answer = Accepted; bits = length bits }, packed bits ++ drop (byte_count bits) out)

-- the answer, and the buffer after it. Are the arguments in the domain? No: 4. Do the bits of t read as t? No: 8, since no others do.
-- Has the buffer a byte for each eight bits begun? No: 5. Refused, the buffer is as it was
unfoldable pub write_tile_info : TileArgs → TileInfo → List ℕ → Written × List ℕ
write_tile_info a t out =
    pick (in_domain a)
    (pick (reads_as (again a t) t)
    (pick (leb (byte_count (layout_bits a t)) (length out)) (written (layout_bits a t) out) (refusal ShortBuffer, out))
    (refusal NoSuchLayout, out))
    (refusal WrongArguments, out)
