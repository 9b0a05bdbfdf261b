-- The tiles of every layout that is read fresh cover its picture. Assumes nothing.
use mathlib.Core.Bool.{Bool, true, false}
use mathlib.Core.List.{List}
use mathlib.Core.Path.{◌≡◌, refl, sym, ◌∙◌, subst}
use Prim.Native.Nat.{ℕ}
use Rattle.answers.specs.Numbers.{is_refusal}
use Rattle.getbits.specs.Bits.{get_flag, flag_if}
use Rattle.getbits.specs.Chain.{then}
use Rattle.getbits.specs.declared.Place.{Place}
use Rattle.getbits.proofs.Chain.{contrary, picked, left, through}
use Rattle.tile_layout.specs.Layout.{parse_tile_info}
use Rattle.tile_layout.specs.Limits.{no_tile_info}
use Rattle.tile_layout.specs.declared.TileArgs.{TileArgs}
use Rattle.tile_layout.specs.declared.TileInfo.{TileInfo}
use Rattle.seq_record.specs.declared.SequenceHeader.{SequenceHeader}
use Rattle.seq_hdr.specs.Header.{read_head, with_tiling, parse_seq_hdr}
use Rattle.seq_hdr.specs.HeaderLayout.{args_before}
use Rattle.seq_hdr.specs.Tiling.{tile_info_if, read_tiling}
use Rattle.seq_hdr.proofs.Accepted.{tiling_of, accepted_header}
use Rattle.frame_layout.specs.Frame.{in_frame_domain, frame_args, read_reuse, fresh_layout, parse_tile_info_frmhdr, frame_tiles}
use Rattle.frame_layout.specs.Sequence.{seq_layout}
use Rattle.frame_layout.specs.declared.FrameHeader.{FrameHeader}
use Rattle.frame_layout.specs.declared.SeqLayout.{SeqLayout}
use Rattle.tile_limit.specs.Within.{is_too_many, frame_within, parse_tile_info_within, parse_tile_info_frmhdr_within}
use Rattle.tile_limit.specs.declared.TileLimit.{TileLimit}
use Rattle.tile_limit.proofs.Limited.{within_accepted}
use Rattle.rectangles.specs.Covering.{Covering}
use Rattle.rectangles.proofs.Promises.{layout_covers}
use Rattle.covering.specs.Fresh.{LayoutCovers, FrameCovers, SequenceCovers, HeaderCovers, FreshCovers}

frame_covers : (s : List ℕ) (p : Place) (h : FrameHeader) (q : SeqLayout) → (read_reuse s p (frame_args h q) q).value ≡ false → FrameCovers (parse_tile_info_frmhdr s p h q)
unfolding parse_tile_info_frmhdr fresh_layout
frame_covers s p h q f =
    let a = frame_args h q in
    let next = (read_reuse s p a q).next in
    picked FrameCovers (in_frame_domain h q) _ _
    (λ _.
    subst FrameCovers (sym (through _ _ refl ∙ through _ _ refl ∙ left _ _ _ f ∙ through _ _ refl))
    (λ e. rw e (layout_covers s next h.tiling a e)))
    (λ _ e. contrary refl e)

-- what is accepted within a limit is what was read
layout_within : (s : List ℕ) (p : Place) (old : TileInfo) (a : TileArgs) (m : TileLimit) → LayoutCovers a (parse_tile_info_within s p old a m)
layout_within s p old a m = within_accepted (λ t. Covering t a.frame_code a.width a.height) m old (parse_tile_info s p old a) (layout_covers s p old a)

frame_within_lem : (s : List ℕ) (p : Place) (h : FrameHeader) (q : SeqLayout) (m : TileLimit) → (read_reuse s p (frame_args h q) q).value ≡ false
    → FrameCovers (parse_tile_info_frmhdr_within s p h q m)
unfolding frame_within
frame_within_lem s p h q m f = picked FrameCovers (is_too_many m (frame_tiles (parse_tile_info_frmhdr s p h q))) _ _ (λ _ e. contrary refl e) (λ _. frame_covers s p h q f)

-- the tiling of a header whose fields before it are hdr's
tiling_covers : (hdr : SequenceHeader) (s : List ℕ) (p : Place)
    → (grain : Bool) → is_refusal (tiling_of hdr s p).answer ≡ false → SequenceCovers (seq_layout (with_tiling hdr (tiling_of hdr s p).value grain))
unfolding read_tiling then flag_if tile_info_if
tiling_covers hdr s p grain = by (get_flag s p).value refl
  where
    by : (present : Bool) → (get_flag s p).value ≡ present
        → is_refusal (tiling_of hdr s p).answer ≡ false → SequenceCovers (seq_layout (with_tiling hdr (tiling_of hdr s p).value grain))
    by true e = rw e (λ z _. layout_covers s _ no_tile_info (args_before hdr) z)
    by false e = rw e (λ _ off. contrary refl off)

header_covers : (s : List ℕ) (p : Place) (strict : Bool) → HeaderCovers (parse_seq_hdr s p strict)
header_covers s p strict =
    let head = read_head s p in
    accepted_header (λ hdr. SequenceCovers (seq_layout hdr)) s p strict (λ _ z grain. tiling_covers head.hdr s head.next grain z)

pub fresh_covers : FreshCovers
fresh_covers =
    record {
      layout = layout_covers;
      frame = frame_covers;
      layout_within = layout_within;
      frame_within = frame_within_lem;
      header = header_covers;
    }
