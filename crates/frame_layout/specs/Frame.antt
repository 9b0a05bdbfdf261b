-- What parse_tile_info_frmhdr reads: document 01, "Domain" and parse_tile_info_frmhdr.
use Rattle.std.specs.Prelude.{◌≡◌, Bool, true, false, ◌&&◌, ◌||◌, List, [], ◌∷◌, ◌++◌, ℕ, zero, suc, ◌*◌, leb, eqb, get_or}
use Rattle.answers.specs.Numbers.{is_refusal}
use Rattle.answers.specs.declared.Answer.TheVariants.{Accepted, WrongArguments}
use Rattle.getbits.specs.Bits.{settled, get_flag}
use Rattle.getbits.specs.Chain.{pick, then}
use Rattle.getbits.specs.declared.Read.{Read}
use Rattle.getbits.specs.declared.Place.{Place}
use Rattle.seq_fields.specs.declared.AdaptiveBoolean.{AdaptiveBoolean}
use Rattle.seq_fields.specs.declared.AdaptiveBoolean.TheVariants.{Off, On, Adaptive}
use Rattle.tile_layout.specs.Limits.{unsigned, is_size, superblocks, sbw, sbh}
use Rattle.tile_layout.specs.Layout.{padded, tabulate, parse_tile_info}
use Rattle.tile_layout.specs.Demand3.{Demand3}
use Rattle.tile_layout.specs.Cleared.{ReadOver}
use Rattle.tile_layout.specs.declared.TileArgs.{TileArgs}
use Rattle.tile_layout.specs.declared.TileInfo.{TileInfo}
use Rattle.tile_layout.specs.declared.TileRead.{TileRead}
use Rattle.superblocks.specs.Counts.{multiplier_of, fits_uniform}
use Rattle.frame_layout.specs.declared.FrameType.{FrameType}
use Rattle.frame_layout.specs.declared.FrameType.TheVariants.{Key, Inter, Intra, Switch}
use Rattle.frame_layout.specs.declared.FrameHeader.{FrameHeader}
use Rattle.frame_layout.specs.declared.FrameRead.{FrameRead}
use Rattle.frame_layout.specs.declared.SeqLayout.{SeqLayout}

-- THE DOMAIN.
-- all starts up to and with entry n are at most 1,024
unfoldable pub starts_low : List ℕ → ℕ → Bool
starts_low starts zero = leb (get_or starts 0 0) 1024
starts_low starts (suc n) = starts_low starts n && leb (get_or starts (suc n) 0) 1024

-- columns (rows) are 1 to 64, their logarithm at most 6, and all starts up to and with the closing one at most 1,024
unfoldable pub usable_tiles : ℕ → ℕ → List ℕ → Bool
usable_tiles tiles log2 starts = leb 1 tiles && leb tiles 64 && leb log2 6 && starts_low starts tiles

abbrev pub is_off : AdaptiveBoolean → Bool
is_off Off = true
is_off On = false
is_off Adaptive = false

-- a sequence record is usable when its code is at most 2, its maximum sizes, level and tier are in the domain and, unless tiling is Off,
-- its columns and rows are usable
unfoldable pub usable : SeqLayout → Bool
usable q =
    leb q.sb128 2
    && is_size (unsigned q.max_width)
    && is_size (unsigned q.max_height)
    && leb q.level 31
    && leb q.tier 1
    && (is_off q.present
    || (usable_tiles q.t.cols q.t.log2_cols q.t.col_start_sb && usable_tiles q.t.rows q.t.log2_rows q.t.row_start_sb))

-- are all arguments in the domain, and the sequence record usable?
unfoldable pub in_frame_domain : FrameHeader → SeqLayout → Bool
in_frame_domain h q = is_size (unsigned h.width) && is_size (unsigned h.height) && usable q

-- NUMBERS of a frame's type and of tiling's presence.
-- types 0 to 3: key, inter, intra, switch
abbrev pub is_frame_type : ℕ → Bool
is_frame_type n = leb n 3

abbrev pub frame_type_of : ℕ → FrameType
frame_type_of n = pick (eqb n 0) Key (pick (eqb n 1) Inter (pick (eqb n 2) Intra Switch))

-- presence 0 to 2: off, on, adaptive
abbrev pub is_presence : ℕ → Bool
is_presence n = leb n 2

abbrev pub present_of : ℕ → AdaptiveBoolean
present_of n = pick (eqb n 0) Off (pick (eqb n 1) On Adaptive)

-- THE FRAME'S CODE, and what follows from it.
abbrev pub is_inter_or_switch : FrameType → Bool
is_inter_or_switch Key = false
is_inter_or_switch Inter = true
is_inter_or_switch Intra = false
is_inter_or_switch Switch = true

-- the sequence's code for inter and switch; else 1 if the sequence's is not 0, else 0
unfoldable pub frame_code : FrameType → ℕ → ℕ
frame_code f code = pick (is_inter_or_switch f) code (pick (eqb code 0) 0 1)

-- what the frame's layout is read for
abbrev pub frame_args : FrameHeader → SeqLayout → TileArgs
frame_args h q =
    record {
      multiplier = multiplier_of (frame_code h.frame_type q.sb128) q.sb128;
      frame_code = frame_code h.frame_type q.sb128;
      seq_code = q.sb128;
      width = unsigned h.width;
      height = unsigned h.height;
      level = q.level;
      tier = q.tier;
    }

-- REUSE of the sequence's layout.
-- the sequence's maximum width and height, in the sequence's superblocks
abbrev pub seq_sbw : SeqLayout → ℕ
seq_sbw q = superblocks (unsigned q.max_width) q.sb128

abbrev pub seq_sbh : SeqLayout → ℕ
seq_sbh q = superblocks (unsigned q.max_height) q.sb128

-- a non-uniform layout fits if the sequence's counts equal the frame's. For the pair (1,2) these are counts of superblocks of two sizes: they
-- are compared all the same, as in the Rust
unfoldable pub same_counts : TileArgs → SeqLayout → Bool
same_counts a q = eqb (seq_sbw q) (sbw a) && eqb (seq_sbh q) (sbh a)

-- may the sequence's layout be reused? Not where tiling is Off; a uniform one if it fits along the frame's superblocks both ways
unfoldable pub reuse_allowed : TileArgs → SeqLayout → Bool
reuse_allowed a q =
    pick (is_off q.present) false
    (pick q.t.uniform
    (fits_uniform q.t.log2_cols (sbw a) && fits_uniform q.t.log2_rows (sbh a))
    (same_counts a q))

-- not reused, and no bit used
abbrev pub not_reused : List ℕ → Place → Read Bool
not_reused s p = record { value = false; next = settled s p }

-- where it may: On reuses it without a bit, and for Adaptive a bit says whether
unfoldable pub ask_reuse : AdaptiveBoolean → List ℕ → Place → Read Bool
ask_reuse Off s p = not_reused s p
ask_reuse On s p = record { value = true; next = settled s p }
ask_reuse Adaptive s p = get_flag s p

-- is the sequence's layout reused, and the place after the question
unfoldable pub read_reuse : List ℕ → Place → TileArgs → SeqLayout → Read Bool
read_reuse s p a q = pick (reuse_allowed a q) (ask_reuse q.present s p) (not_reused s p)

-- the starts times the multiplier; only with multiplier 2 is the closing entry set to the frame's
unfoldable pub reused_starts : ℕ → List ℕ → ℕ → ℕ → List ℕ
reused_starts mul starts tiles closing = padded (tabulate (λ i. mul * get_or starts i 0) 0 tiles ++ (pick (eqb mul 2) closing (get_or starts tiles 0) ∷ []))

-- a reused layout is the sequence's whole record, with these starts
unfoldable pub reused_info : TileArgs → TileInfo → TileInfo
reused_info a t =
    record {
      uniform = t.uniform;
      min_log2_cols = t.min_log2_cols;
      max_log2_cols = t.max_log2_cols;
      log2_cols = t.log2_cols;
      cols = t.cols;
      min_log2_rows = t.min_log2_rows;
      max_log2_rows = t.max_log2_rows;
      log2_rows = t.log2_rows;
      rows = t.rows;
      col_start_sb = reused_starts a.multiplier t.col_start_sb t.cols (sbw a);
      row_start_sb = reused_starts a.multiplier t.row_start_sb t.rows (sbh a);
    }

-- THE ANSWER.
-- the frame's record with its code and a layout
abbrev pub with_layout : FrameHeader → ℕ → TileInfo → FrameHeader
with_layout h code t = record { frame_type = h.frame_type; width = h.width; height = h.height; sb128 = code; tiling = t }

-- a layout read fresh, over the frame's own; refused, the record given comes back whole. The reader's error is not looked at
unfoldable pub fresh_layout : List ℕ → Place → FrameHeader → TileArgs → FrameRead
fresh_layout s p h a =
    then (parse_tile_info s p h.tiling a) λ z.
    record { answer = z.answer; hdr = pick (is_refusal z.answer) h (with_layout h a.frame_code z.info); next = z.next }

-- parse_tile_info_frmhdr: are all arguments in the domain, and the sequence record usable? No: 4, no bit used. Is the sequence's layout
-- reused? No: one is read
unfoldable pub parse_tile_info_frmhdr : List ℕ → Place → FrameHeader → SeqLayout → FrameRead
parse_tile_info_frmhdr s p h q =
    pick (in_frame_domain h q)
    (then (frame_args h q) λ a.
    then (read_reuse s p a q) λ f.
    pick f.value
    (record { answer = Accepted; hdr = with_layout h a.frame_code (reused_info a q.t); next = f.next })
    (fresh_layout s f.next h a))
    (record { answer = WrongArguments; hdr = h; next = settled s p })

-- WHAT IS PROMISED.
-- the layout in a frame's answer
abbrev pub frame_tiles : FrameRead → TileRead
frame_tiles r = record { answer = r.answer; info = r.hdr.tiling; next = r.next }

-- demand 3 holds of every call that reads a layout, from the place behind the question of reuse, and reuses none
abbrev pub FreshDemand3 : List ℕ → Place → FrameHeader → SeqLayout → FrameRead → Type 0
FreshDemand3 s p h q r =
    in_frame_domain h q ≡ true
    → (read_reuse s p (frame_args h q) q).value ≡ false
    → Demand3 s (read_reuse s p (frame_args h q) q).next (frame_args h q) (frame_tiles r)

-- of each frame's answer
pub record FrameLayout (s : List ℕ) (p : Place) (h : FrameHeader) (q : SeqLayout) (r : FrameRead) : Type 0 where
  pub fresh : FreshDemand3 s p h q r
  -- accepted, read fresh or reused, zeros stand behind the closing entries; refused, the layout given comes back: request #107
  pub over : ReadOver h.tiling (frame_tiles r)
