-- The readings marked (P) in document 01, "Readings to check", in its order, places that count as the end, and the readings of the requests behind them: a row
-- for each, and one claim over all rows.
use Rattle.std.specs.Prelude.{◌≡◌, Bool, true, false, ℕ, ◌+◌, ◌-◌, ℤ, pos, take, replicate}
use mathlib.Core.List.{List, [], ◌∷◌, ◌++◌, Memᴰ}
use Rattle.answers.specs.Numbers.{number_of, is_refusal}
use Rattle.answers.specs.declared.Answer.{Answer}
use Rattle.getbits.specs.Bits.{position, place_at, get_bits}
use Rattle.getbits.specs.Chain.{pick, then}
use Rattle.getbits.specs.declared.Place.{Place}
use Rattle.text.specs.Text.{word}
use Rattle.tile_layout.specs.declared.TileArgs.{TileArgs}
use Rattle.tile_layout.specs.declared.TileInfo.{TileInfo}
use Rattle.tile_layout.specs.declared.TileRead.{TileRead}
use Rattle.tile_layout.specs.Limits.{no_tile_info, args_of}
use Rattle.tile_layout.specs.Layout.{tabulate, parse_tile_info}
use Rattle.tile_request.specs.Print.{tile_read_text}
use Rattle.tile_request.specs.Request.{tile_request}
use Rattle.seq_fields.specs.declared.AdaptiveBoolean.TheVariants.{On}
use Rattle.seq_fields.specs.declared.PixelLayout.{PixelLayout}
use Rattle.seq_fields.specs.declared.PixelLayout.TheVariants.{I400}
use Rattle.seq_hdr.specs.declared.SeqRead.{SeqRead}
use Rattle.seq_hdr.specs.Header.{parse_seq_hdr}
use Rattle.frame_layout.specs.Frame.{parse_tile_info_frmhdr}
use Rattle.frame_layout.specs.declared.FrameRead.{FrameRead}
use Rattle.frame_layout.specs.declared.FrameType.{FrameType}
use Rattle.frame_layout.specs.declared.FrameType.TheVariants.{Key, Inter}
use Rattle.frame_layout.specs.declared.SeqLayout.{SeqLayout}
use Rattle.rectangles.specs.Rectangles.{rectangle_numbers, tile_rectangles}
use Rattle.layout_writing.specs.Write.{write_tile_info}

-- what is read: the input of the tile program; bytes as a layout for these arguments, or bytes as a sequence header; n bits, a layout or a sequence header at
-- another place than the first bit; the rectangles of such a layout, in its own frame or in another that reuses it; such a layout written again; or the starts
-- of such a layout, read over a record whose starts are all `old`, or reused from a sequence's record in which `old` stands behind the closing ones
pub data Question : Type 0 where
  tile_input : List ℕ → Question
  layout : TileArgs → List ℕ → Question
  bits_at_place : Place → (n : ℕ) → List ℕ → Question
  layout_at_place : Place → TileArgs → List ℕ → Question
  header_at_place : Place → List ℕ → Question
  header : (strict : Bool) → List ℕ → Question
  rectangles_of : TileArgs → List ℕ → Question
  rectangles_reused : (width height : ℕ) → TileArgs → List ℕ → Question
  written : TileArgs → List ℕ → Question
  read_over : (old : ℕ) → TileArgs → List ℕ → Question
  reused_over : (old : ℕ) → FrameType → (width height : ℕ) → TileArgs → List ℕ → Question

-- an accepted layout: what the tile program prints, in its order, and the columns' logarithm;
-- document 01 names a part of it in each row
pub record Tiles : Type 0 where
  pub uniform : Bool
  pub cols : ℕ
  pub rows : ℕ
  pub used : ℕ
  pub error : Bool
  -- all starts with the closing one
  pub col_starts : List ℕ
  pub row_starts : List ℕ
  pub log2_cols : ℕ

-- what comes of it: the text that the tile program prints, a refusal by its number, an accepted layout, an accepted header's largest frame and sample layout,
-- a number and the place after it, rectangles, how many bits are written and their bytes, or the answer's number with all column starts and all row starts
-- that are left
pub data Result : Type 0 where
  prints : List ℕ → Result
  value : ℕ → Place → Result
  refused_with : ℕ → Result
  tiles : Tiles → Result
  picture : (width height : ℤ) → PixelLayout → Result
  numbers : List ℕ → Result
  bits : ℕ → List ℕ → Result
  starts : ℕ → List ℕ → List ℕ → Result

-- the result of a layout read from the bytes s
abbrev pub layout_result : List ℕ → TileRead → Result
layout_result s r =
    pick (is_refusal r.answer) (refused_with (number_of r.answer))
    (tiles (record {
      uniform = r.info.uniform;
      cols = r.info.cols;
      rows = r.info.rows;
      used = position s r.next;
      error = r.next.error;
      col_starts = take (r.info.cols + 1) r.info.col_start_sb;
      row_starts = take (r.info.rows + 1) r.info.row_start_sb;
      log2_cols = r.info.log2_cols;
    }))

-- the result of a header
abbrev pub header_result : SeqRead → Result
header_result r =
    pick (is_refusal r.answer) (refused_with (number_of r.answer))
    (picture r.hdr.picture.size.max_width r.hdr.picture.size.max_height r.hdr.format.layout)

-- the result of the rectangles of a layout read, in a frame of w by h samples, put into a buffer of zeros with room for just them
abbrev pub rectangles_result : Answer → TileInfo → (code w h : ℕ) → Result
rectangles_result z t code w h =
    pick (is_refusal z) (refused_with (number_of z)) (
    then (tile_rectangles t code w h (replicate (rectangle_numbers t) 0)) λ r.
    pick (is_refusal r.0) (refused_with (number_of r.0)) (numbers r.1))

-- the result of a layout read that is written again, into a buffer of one byte
abbrev pub written_result : TileArgs → TileRead → Result
written_result a z =
    pick (is_refusal z.answer) (refused_with (number_of z.answer)) (
    then (write_tile_info a z.info (0 ∷ [])) λ w.
    pick (is_refusal w.0.answer) (refused_with (number_of w.0.answer)) (bits w.0.bits w.1))

-- the layout read from s at a place, over the zero layout
abbrev pub layout_at : Place → TileArgs → List ℕ → TileRead
layout_at p a s = parse_tile_info s p no_tile_info a

-- and from the first bit
abbrev pub layout_from : TileArgs → List ℕ → TileRead
layout_from a s = layout_at (place_at 0 false) a s

-- a sequence with a layout, which its frames reuse without a bit
abbrev pub sequence_with : TileArgs → TileInfo → SeqLayout
sequence_with a t =
    record {
      sb128 = a.seq_code;
      max_width = pos a.width;
      max_height = pos a.height;
      level = a.level;
      tier = a.tier;
      present = On;
      t = t;
    }

-- a frame of w by h samples, over the zero layout and without data
abbrev pub frame_in : SeqLayout → FrameType → ℕ → ℕ → FrameRead
frame_in q type w h = parse_tile_info_frmhdr [] (place_at 0 false) (record { frame_type = type; width = pos w; height = pos h; sb128 = 0; tiling = no_tile_info }) q

-- a layout with other starts
abbrev pub with_starts : TileInfo → List ℕ → List ℕ → TileInfo
with_starts t cols rows =
    record {
      uniform = t.uniform;
      min_log2_cols = t.min_log2_cols;
      max_log2_cols = t.max_log2_cols;
      log2_cols = t.log2_cols;
      cols = t.cols;
      min_log2_rows = t.min_log2_rows;
      max_log2_rows = t.max_log2_rows;
      log2_rows = t.log2_rows;
      rows = t.rows;
      col_start_sb = cols;
      row_start_sb = rows;
    }

-- n starts and the closing one, and `old` behind them
abbrev pub old_behind : ℕ → ℕ → List ℕ → List ℕ
old_behind old n edges = take (n + 1) edges ++ replicate (64 - n) old

-- a layout with `old` behind its closing entries
abbrev pub with_old : ℕ → TileInfo → TileInfo
with_old old t = with_starts t (old_behind old t.cols t.col_start_sb) (old_behind old t.rows t.row_start_sb)

-- all starts of a record, with the answer's number
abbrev pub starts_result : Answer → TileInfo → Result
starts_result z t = starts (number_of z) t.col_start_sb t.row_start_sb

-- what the tile program, parse_tile_info, parse_seq_hdr and parse_tile_info_frmhdr are proved to answer, each from the first bit if no place is said, get_bits,
-- and tile_rectangles and write_tile_info of a layout
unfoldable pub answer_to : Question → Result
answer_to (tile_input s) = prints (tile_read_text (tile_request s))
answer_to (bits_at_place p n s) = then (get_bits s p (pos n)) λ r. value r.value r.next
answer_to (layout_at_place p a s) = layout_result s (layout_at p a s)
answer_to (header_at_place p s) = header_result (parse_seq_hdr s p false)
answer_to (layout a s) = layout_result s (layout_from a s)
answer_to (header strict s) = header_result (parse_seq_hdr s (place_at 0 false) strict)
answer_to (rectangles_of a s) = then (layout_from a s) λ r. rectangles_result r.answer r.info a.frame_code a.width a.height
answer_to (rectangles_reused w h a s) = then (frame_in (sequence_with a (layout_from a s).info) Inter w h) λ r. rectangles_result r.answer r.hdr.tiling r.hdr.sb128 w h
answer_to (written a s) = written_result a (layout_from a s)
answer_to (read_over old a s) =
    then (parse_tile_info s (place_at 0 false) (with_starts no_tile_info (replicate 65 old) (replicate 65 old)) a) λ r. starts_result r.answer r.info
answer_to (reused_over old type w h a s) = then (frame_in (sequence_with a (with_old old (layout_from a s).info)) type w h) λ r. starts_result r.answer r.hdr.tiling

-- a reading: what is read, and what document 01 or the request says comes of it
pub record Row : Type 0 where
  pub question : Question
  pub result : Result

-- a row holds: what is answered is what is said
abbrev pub Holds : Row → Type 0
Holds r = answer_to r.question ≡ r.result

-- a row, with its two parts side by side
infix 68 ◌gives◌
abbrev pub ◌gives◌ : Question → Result → Row
question gives result = record { question = question; result = result }

-- an accepted layout as document 01's listing shows it: uniform or not, columns, rows, tiling bits used, reader error,
-- all column starts, all row starts; and the columns' logarithm
abbrev pub ok : Bool → ℕ → ℕ → ℕ → Bool → List ℕ → List ℕ → ℕ → Result
ok uniform cols rows used error col_starts row_starts log2_cols =
    tiles (record {
      uniform = uniform;
      cols = cols;
      rows = rows;
      used = used;
      error = error;
      col_starts = col_starts;
      row_starts = row_starts;
      log2_cols = log2_cols;
    })

-- level 0, tier 0, pair (0,0) unless said
abbrev pub frame : ℕ → ℕ → TileArgs
frame w h = args_of (pos 1) 0 0 (pos w) (pos h) 0 0

-- pair (1,2), whose multiplier is 2
abbrev pub frame_of_pair12 : ℕ → ℕ → TileArgs
frame_of_pair12 w h = args_of (pos 2) 1 2 (pos w) (pos h) 0 0

-- a place with the byte reached and the bits of it used, without error; and the end of so many bytes, with an error or not
abbrev pub at : ℕ → ℕ → Place
at byte used = record { byte = byte; used = used; error = false }

abbrev pub end : ℕ → Bool → Place
end bytes error = record { byte = bytes; used = 0; error = error }

-- the bytes of the sequence header before its last one
abbrev pub header_start : List ℕ
header_start = 0x82 ∷ 0x05 ∷ 0x00 ∷ 0x00 ∷ 0x00 ∷ 0x80 ∷ 0x10 ∷ []

-- the table; above each row stands document 01's line, or the request's
unfoldable pub table : List Row
table =
    -- (P) The listing above: input FF 00 7F 00 00 00 00 00 28, which asks for 256 by 128 and has the tiling bits 28, prints three lines.
    tile_input (0xFF ∷ 0x00 ∷ 0x7F ∷ 0x00 ∷ 0x00 ∷ 0x00 ∷ 0x00 ∷ 0x00 ∷ 0x28 ∷ [])
    gives prints (word "ok N 3 1 5 0\n0 2 3 4\n0 2\n")
    -- (P) The same as a layout: 256 by 128 with the tiling bits 28; ok N 3 1 5 0, 0 2 3 4, 0 2.
    ∷ layout (frame 256 128) (0x28 ∷ [])
    gives ok false 3 1 5 false (0 ∷ 2 ∷ 3 ∷ 4 ∷ []) (0 ∷ 2 ∷ []) 2
    -- (P) 320 by 64, E0: columns 0 2 3 4 5.
    ∷ layout (frame 320 64) (0xE0 ∷ [])
    gives ok true 4 1 4 false (0 ∷ 2 ∷ 3 ∷ 4 ∷ 5 ∷ []) (0 ∷ 1 ∷ []) 2
    -- (P) F0: 0 1 2 3 4 5, logarithm 3.
    ∷ layout (frame 320 64) (0xF0 ∷ [])
    gives ok true 5 1 4 false (0 ∷ 1 ∷ 2 ∷ 3 ∷ 4 ∷ 5 ∷ []) (0 ∷ 1 ∷ []) 3
    -- (P) 330 by 64, E0: 0 2 3 4 6.
    ∷ layout (frame 330 64) (0xE0 ∷ [])
    gives ok true 4 1 4 false (0 ∷ 2 ∷ 3 ∷ 4 ∷ 6 ∷ []) (0 ∷ 1 ∷ []) 2
    -- (P) 600 by 128, pair (1,2), C0: 0 2 5.
    ∷ layout (frame_of_pair12 600 128) (0xC0 ∷ [])
    gives ok true 2 1 3 false (0 ∷ 2 ∷ 5 ∷ []) (0 ∷ 1 ∷ []) 1
    -- (P) 4032 by 4672, 80: rows 0 37 73.
    ∷ layout (frame 4032 4672) (0x80 ∷ [])
    gives ok true 1 2 3 false (0 ∷ 63 ∷ []) (0 ∷ 37 ∷ 73 ∷ []) 0
    -- (P) 4096 by 64, no data: accepted, 64 columns, error set. The starts are 0 to 64.
    ∷ layout (frame 4096 64) []
    gives ok false 64 1 0 true (tabulate (λ i. i) 0 65) (0 ∷ 1 ∷ []) 6
    -- (P) 4160 by 64, no data: 2.
    ∷ layout (frame 4160 64) [] gives refused_with 2
    -- (P) Sequence header 82 05 00 00 00 80 10 02, strict: accepted, 1 by 1, I400.
    ∷ header true (header_start ++ (0x02 ∷ [])) gives picture (pos 1) (pos 1) I400
    -- (P) Last byte 00: strict 3, else accepted.
    ∷ header true (header_start ++ (0x00 ∷ [])) gives refused_with 3
    ∷ header false (header_start ++ (0x00 ∷ [])) gives picture (pos 1) (pos 1) I400
    -- (P) Last byte missing: 1.
    ∷ header true header_start gives refused_with 1
    ∷ header false header_start gives refused_with 1
    -- (P) Empty header: 1.
    ∷ header true [] gives refused_with 1
    ∷ header false [] gives refused_with 1
    -- A place past the last bit, or with more than 7 bits used, counts as the end and is handed back as the end. Of the bytes FF FF: the last bit is there,
    ∷ bits_at_place (at 1 7) 1 (0xFF ∷ 0xFF ∷ []) gives value 1 (end 2 false)
    -- behind it and past it there is none, though eight bits used of the first byte are as many as stand before the second,
    ∷ bits_at_place (at 2 0) 1 (0xFF ∷ 0xFF ∷ []) gives value 0 (end 2 true)
    ∷ bits_at_place (at 0 8) 1 (0xFF ∷ 0xFF ∷ []) gives value 0 (end 2 true)
    -- and where no bit is asked for, the end comes back without an error.
    ∷ bits_at_place (at 0 8) 0 (0xFF ∷ 0xFF ∷ []) gives value 0 (end 2 false)
    ∷ bits_at_place (at 3 1) 0 (0xFF ∷ 0xFF ∷ []) gives value 0 (end 2 false)
    -- A layout reads there as one without data, and a header is refused as an empty one is.
    ∷ layout_at_place (at 0 8) (frame 192 64) (0xFF ∷ 0xFF ∷ [])
    gives ok false 3 1 16 true (0 ∷ 1 ∷ 2 ∷ 3 ∷ []) (0 ∷ 1 ∷ []) 2
    ∷ header_at_place (at 0 8) (header_start ++ (0x00 ∷ [])) gives refused_with 1
    -- #105: the 330 picture's last tile, starting at 256, is 74 wide.
    ∷ rectangles_of (frame 330 64) (0xE0 ∷ [])
    gives numbers (0 ∷ 0 ∷ 128 ∷ 64 ∷ 128 ∷ 0 ∷ 64 ∷ 64 ∷ 192 ∷ 0 ∷ 64 ∷ 64 ∷ 256 ∷ 0 ∷ 74 ∷ 64 ∷ [])
    -- A reused layout may then have a tile of width 0: that of a sequence 256 wide with the starts 0 2 4, in a frame 128 wide.
    ∷ rectangles_reused 128 64 (frame 256 64) (0xC0 ∷ []) gives numbers (0 ∷ 0 ∷ 128 ∷ 64 ∷ 128 ∷ 0 ∷ 0 ∷ 64 ∷ [])
    -- #106: 1110, 1111 and 00110 all give columns 0 2 4 5, and each is written again as it was.
    ∷ layout (frame_of_pair12 600 128) (0xE0 ∷ [])
    gives ok true 3 1 4 false (0 ∷ 2 ∷ 4 ∷ 5 ∷ []) (0 ∷ 1 ∷ []) 2
    ∷ layout (frame_of_pair12 600 128) (0xF0 ∷ [])
    gives ok true 3 1 4 false (0 ∷ 2 ∷ 4 ∷ 5 ∷ []) (0 ∷ 1 ∷ []) 3
    ∷ layout (frame_of_pair12 600 128) (0x30 ∷ [])
    gives ok false 3 1 5 false (0 ∷ 2 ∷ 4 ∷ 5 ∷ []) (0 ∷ 1 ∷ []) 2
    ∷ written (frame_of_pair12 600 128) (0xE0 ∷ []) gives bits 4 (0xE0 ∷ [])
    ∷ written (frame_of_pair12 600 128) (0xF0 ∷ []) gives bits 4 (0xF0 ∷ [])
    ∷ written (frame_of_pair12 600 128) (0x30 ∷ []) gives bits 5 (0x30 ∷ [])
    -- #107: behind the closing entries stand zeros, whatever stood there before: of 330 by 64, E0.
    ∷ read_over 7 (frame 330 64) (0xE0 ∷ [])
    gives starts 0 (0 ∷ 2 ∷ 3 ∷ 4 ∷ 6 ∷ replicate 60 0) (0 ∷ 1 ∷ replicate 63 0)
    -- A refusal hands back the record given.
    ∷ read_over 7 (frame 4160 64) [] gives starts 2 (replicate 65 7) (replicate 65 7)
    -- Reused, with multiplier 1: the sequence 256 wide with the starts 0 2 4, in a frame 192 wide.
    ∷ reused_over 7 Inter 192 64 (frame 256 64) (0xC0 ∷ []) gives starts 0 (0 ∷ 2 ∷ 4 ∷ replicate 62 0) (0 ∷ 1 ∷ replicate 63 0)
    -- With multiplier 2: a key frame of a sequence with code 2, whose starts are 0 1 3.
    ∷ reused_over 7 Key 600 128 (args_of (pos 1) 2 2 (pos 600) (pos 128) 0 0) (0xC0 ∷ []) gives starts 0 (0 ∷ 2 ∷ 5 ∷ replicate 62 0) (0 ∷ 1 ∷ replicate 63 0)
    ∷ []

-- the claim: every row of the table holds
abbrev pub EveryRowHolds : Type 0
EveryRowHolds = (r : Row) → Memᴰ r table → Holds r
