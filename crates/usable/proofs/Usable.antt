-- Every accepted sequence header is usable. Assumes nothing.
use mathlib.Core.Path.{◌≡◌, refl}
use mathlib.Core.Bool.{Bool, true, false, ◌&&◌, ◌||◌}
use mathlib.Core.List.{List}
use Prim.Native.Nat.{ℕ, zero, suc, ◌≤◌}
use native.Mathlib.Omega.{arith}
use borrow.Author.Tests.{le-leb}
use lib.ListN.{get_or}
use Rattle.answers.specs.Numbers.{is_refusal}
use Rattle.getbits.specs.Bits.{get_flag, flag_if}
use Rattle.getbits.specs.Chain.{pick, then}
use Rattle.getbits.specs.declared.Place.{Place}
use Rattle.tile_layout.specs.Layout.{parse_tile_info}
use Rattle.tile_layout.specs.Limits.{no_tile_info, in_domain}
use Rattle.tile_layout.specs.declared.TileArgs.{TileArgs}
use Rattle.tile_layout.specs.declared.TileInfo.{TileInfo}
use Rattle.tile_layout.proofs.Demand3.{accepted_in, all_accepted, from_zero, low_logs}
use Rattle.tile_layout.proofs.Domain.{domain, low_code}
use Rattle.rectangles.specs.Rectangles.{rising}
use Rattle.rectangles.proofs.Covering.{covering}
use Rattle.rectangles.proofs.Rising.{start_le, described}
use Rattle.seq_fields.specs.declared.AdaptiveBoolean.TheVariants.{On, Adaptive}
use Rattle.seq_record.specs.declared.SequenceHeader.{SequenceHeader}
use Rattle.seq_record.specs.declared.SeqTiling.{SeqTiling}
use Rattle.seq_hdr.specs.Header.{read_head, with_tiling, parse_seq_hdr}
use Rattle.seq_hdr.specs.HeaderLayout.{args_before}
use Rattle.seq_hdr.specs.Tiling.{tile_info_if, read_tiling}
use Rattle.seq_hdr.proofs.Accepted.{tiling_of, accepted_header}
use Rattle.seq_hdr.proofs.Bounds.{head_in}
use Rattle.frame_layout.specs.Frame.{starts_low, usable_tiles, is_off, usable, in_frame_domain}
use Rattle.frame_layout.specs.Sequence.{seq_layout}
use Rattle.usable.specs.Usable.{IsAccepted, AcceptedUsable}

-- starts that never fall are low
low_starts : (xs : List ℕ) (n k : ℕ) → rising xs n ≡ true → k ≤ n → starts_low xs k ≡ true
unfolding starts_low
low_starts xs n zero h l = le-leb (get_or xs 0 0) 1024 (start_le xs n 0 h (omega arith))
low_starts xs n (suc k) h l = rw (low_starts xs n k h (omega arith), le-leb (get_or xs (suc k) 0) 1024 (start_le xs n (suc k) h l)) refl

tiles_usable : (n log : ℕ) (xs : List ℕ) → 1 ≤ n → n ≤ 64 → log ≤ 6 → rising xs n ≡ true → usable_tiles n log xs ≡ true
unfolding usable_tiles
tiles_usable n log xs some most small h = rw (le-leb 1 n some, le-leb n 64 most, le-leb log 6 small, low_starts xs n n h (omega arith)) refl

-- the columns and the rows of a layout are usable
abbrev tiled : TileInfo → Bool
tiled t = usable_tiles t.cols t.log2_cols t.col_start_sb && usable_tiles t.rows t.log2_rows t.row_start_sb

layout_tiled : (s : List ℕ) (p : Place) (old : TileInfo) (a : TileArgs) → is_refusal (parse_tile_info s p old a).answer ≡ false → tiled (parse_tile_info s p old a).info ≡ true
layout_tiled s p old a e =
    let d = described _ _ _ _ (covering s p a _ (accepted_in s p old a e) (all_accepted s p old a e) (from_zero s p old a e)).described in
    let l = low_logs s p old a e in
    rw (tiles_usable _ _ _ d.some_cols d.most_cols l.0 d.across, tiles_usable _ _ _ d.some_rows d.most_rows l.1 d.down) refl

-- a record whose layout is read for arguments in the domain, with a tiling that is Off or has a usable layout
record_usable : (hdr : SequenceHeader) (tiling : SeqTiling) (grain : Bool) → in_domain (args_before hdr) ≡ true → is_off tiling.present || tiled tiling.t ≡ true
    → usable (seq_layout (with_tiling hdr tiling grain)) ≡ true
unfolding usable
record_usable hdr tiling grain e h =
    let a = args_before hdr in
    let d = domain a e in
    rw (
      le-leb a.frame_code 2 (low_code a d),
      le-leb 1 a.width d.some_width,
      le-leb a.width 65536 d.most_width,
      le-leb 1 a.height d.some_height,
      le-leb a.height 65536 d.most_height,
      le-leb a.level 31 d.most_level,
      le-leb a.tier 1 d.most_tier,
      h,
    )
    refl

or-true : (b c : Bool) → c ≡ true → b || c ≡ true
or-true true c e = refl
or-true false c e = e

-- an accepted tiling is such a one
tiling_usable : (hdr : SequenceHeader) (s : List ℕ) (p : Place) → is_refusal (tiling_of hdr s p).answer ≡ false
    → is_off (tiling_of hdr s p).value.present || tiled (tiling_of hdr s p).value.t ≡ true
unfolding read_tiling then flag_if tile_info_if
tiling_usable hdr s p = by (get_flag s p).value refl
  where
    by : (present : Bool) → (get_flag s p).value ≡ present → is_refusal (tiling_of hdr s p).answer ≡ false
        → is_off (tiling_of hdr s p).value.present || tiled (tiling_of hdr s p).value.t ≡ true
    by true e = rw e (λ z. or-true (is_off (pick (get_flag s (get_flag s p).next).value Adaptive On)) _ (layout_tiled s (get_flag s (get_flag s p).next).next no_tile_info (args_before hdr) z))
    by false e = rw e (λ _. refl)

header_usable : (s : List ℕ) (p : Place) (strict : Bool) → IsAccepted s p strict → usable (seq_layout (parse_seq_hdr s p strict).hdr) ≡ true
header_usable s p strict =
    let head = read_head s p in
    accepted_header (λ hdr. usable (seq_layout hdr) ≡ true) s p strict
    (λ d z grain. record_usable head.hdr (tiling_of head.hdr s head.next).value grain (head_in s p d) (tiling_usable head.hdr s head.next z))

pub accepted_usable : AcceptedUsable
unfolding in_frame_domain
accepted_usable =
    record {
      header = header_usable;
      frame = λ s p strict e h. rw (header_usable s p strict e) (no_more _);
    }
  where
    no_more : (b : Bool) → b && true ≡ b
    no_more true = refl
    no_more false = refl
