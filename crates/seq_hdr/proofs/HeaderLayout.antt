-- Demand 3 of a header's layout. Assumes nothing.
use mathlib.Core.Path.{◌≡◌, refl, sym, ap, ◌∙◌, subst}
use mathlib.Core.Bool.{Bool, true, false, not, ◌||◌}
use mathlib.Core.List.{List}
use Prim.Native.Nat.{ℕ}
use native.Mathlib.Omega.{arith}
use lib.Dec.{T}
use Rattle.answers.proofs.Numbers.{accepted_by_0}
use Rattle.answers.specs.Numbers.{number_of, is_refusal}
use Rattle.answers.specs.declared.Answer.TheVariants.{Accepted, InvalidSequenceHeader, InvalidTileInfo, InvalidTrailingBits}
use Rattle.getbits.specs.Chain.{pick, then}
use Rattle.getbits.specs.Bits.{get_flag, flag_if}
use Rattle.getbits.specs.declared.Place.{Place}
use Rattle.getbits.proofs.Chain.{picked, taken, left, through}
use Rattle.tile_layout.specs.declared.TileInfo.{TileInfo}
use Rattle.tile_layout.specs.Limits.{no_tile_info}
use Rattle.tile_layout.proofs.Demand3.{demand_3}
use Rattle.seq_record.specs.declared.SequenceHeader.{SequenceHeader}
use Rattle.seq_hdr.specs.declared.SeqRead.{SeqRead}
use Rattle.seq_hdr.specs.Tiling.{TilingRead, tile_info_if, read_tiling}
use Rattle.seq_hdr.specs.Header.{refused_header, check_trailing_bits, read_head, with_tiling, parse_seq_hdr}
use Rattle.seq_hdr.specs.HeaderLayout.{HasLayout, layout_place, layout_args, layout_call, HeaderLayout}
use Rattle.seq_hdr.specs.HeaderTiling.{HeaderTiling}
use Rattle.seq_hdr.proofs.Bounds.{head_in}
use Rattle.seq_hdr.proofs.Cleared.{header_cleared}

-- what is said of an answer behind an accepted layout t
record Behind (t : TileInfo) (r : SeqRead) : Type 0 where
  not_2 : number_of r.answer ≡ 2 → ⊥
  kept : is_refusal r.answer ≡ false → r.hdr.tiling.t ≡ t

module _ (t : TileInfo) where
  behind_1 : (p : Place) → Behind t (refused_header InvalidSequenceHeader p)
  unfolding refused_header
  behind_1 p = record { not_2 = λ e. omega (arith, e); kept = λ e. absurd (subst T e tt) }

  behind_3 : (p : Place) → Behind t (refused_header InvalidTrailingBits p)
  unfolding refused_header
  behind_3 p = record { not_2 = λ e. omega (arith, e); kept = λ e. absurd (subst T e tt) }

  behind_0 : (hdr : SequenceHeader) (p : Place) → hdr.tiling.t ≡ t → Behind t (record { answer = Accepted; hdr = hdr; next = p })
  behind_0 hdr p h = record { not_2 = λ e. omega (arith, e); kept = λ _. h }

  behind_end : (strict : Bool) (hdr : SequenceHeader) (s : List ℕ) (p : Place) → hdr.tiling.t ≡ t → Behind t (check_trailing_bits strict hdr s p)
  unfolding check_trailing_bits then
  behind_end strict hdr s p h =
      let one = get_flag s (get_flag s p).next in
      picked (Behind t) (not strict) _ _
      (λ _. behind_0 hdr p h)
      (λ _. picked (Behind t) (one.next.error || not one.value) _ _ (λ _. behind_3 one.next) (λ _. behind_0 hdr one.next h))

module _ (s : List ℕ) (p : Place) (strict : Bool) (has : HasLayout s p) where
  abbrev head : SeqRead
  head = read_head s p

  abbrev tiling : TilingRead
  tiling = read_tiling head.hdr.blocks.partition.sb128 head.hdr.picture.size head.hdr.level s head.next

  -- the tiling's answer and layout are the call's
  tiling_is : (tiling.answer ≡ (layout_call s p).answer) × (tiling.value.t ≡ (layout_call s p).info)
  unfolding read_tiling then flag_if tile_info_if
  tiling_is = rw has.1 (refl, refl)

  -- the header, behind what stands before the tiling
  opened : parse_seq_hdr s p strict
      ≡ pick (is_refusal tiling.answer) (refused_header InvalidTileInfo tiling.next)
      (then (get_flag s tiling.next) λ grain.
      pick grain.next.error (refused_header InvalidSequenceHeader grain.next)
      (then (with_tiling head.hdr tiling.value grain.value) λ hdr. check_trailing_bits strict hdr s grain.next))
  unfolding parse_seq_hdr
  opened = through _ _ refl ∙ left _ _ _ has.0 ∙ through _ _ refl

  with_2 : is_refusal (layout_call s p).answer ≡ true → number_of (parse_seq_hdr s p strict).answer ≡ 2
  unfolding refused_header
  with_2 e = ap (λ (r : SeqRead). number_of r.answer) (opened ∙ taken _ _ _ (ap is_refusal tiling_is.0 ∙ e))

  refused_and_not : is_refusal (layout_call s p).answer ≡ true → is_refusal (parse_seq_hdr s p strict).answer ≡ false → ⊥
  unfolding refused_header
  refused_and_not e f = subst T (ap (λ (r : SeqRead). is_refusal r.answer) (sym (opened ∙ taken _ _ _ (ap is_refusal tiling_is.0 ∙ e))) ∙ f) tt

  behind : is_refusal (layout_call s p).answer ≡ false → Behind (layout_call s p).info (parse_seq_hdr s p strict)
  unfolding then
  behind e =
      let grain = get_flag s tiling.next in
      rw (opened ∙ left _ _ _ (ap is_refusal tiling_is.0 ∙ e))
      (picked (Behind (layout_call s p).info) grain.next.error _ _
      (λ _. behind_1 (layout_call s p).info grain.next)
      (λ _. behind_end (layout_call s p).info strict (with_tiling head.hdr tiling.value grain.value) s grain.next tiling_is.1))

-- a test is true or false
by_test : (P : Type 0) (t : Bool) → (t ≡ true → P) → (t ≡ false → P) → P
by_test P true f g = f refl
by_test P false f g = g refl

pub header_tiling : (s : List ℕ) (p : Place) (strict : Bool)
    → HeaderTiling s p (number_of (parse_seq_hdr s p strict).answer) (parse_seq_hdr s p strict).hdr.tiling.t
header_tiling s p strict =
    record {
      demand3 = λ has. demand_3 s (layout_place s p) no_tile_info (layout_args s p) (head_in s p has.0);
      refused_with_2 = λ has e. with_2 s p strict has e;
      refused_only_then = λ has e.
          by_test (is_refusal (layout_call s p).answer ≡ true) (is_refusal (layout_call s p).answer) (λ t. t) (λ f. absurd ((behind s p strict has f).not_2 e));
      layout = λ has e.
          by_test ((parse_seq_hdr s p strict).hdr.tiling.t ≡ (layout_call s p).info) (is_refusal (layout_call s p).answer)
          (λ t. absurd (refused_and_not s p strict has t (accepted_by_0 (parse_seq_hdr s p strict).answer e)))
          (λ f. (behind s p strict has f).kept (accepted_by_0 (parse_seq_hdr s p strict).answer e));
      cleared = header_cleared s p strict;
    }

pub header_layout : (s : List ℕ) (p : Place) (strict : Bool) → HeaderLayout s p (parse_seq_hdr s p strict)
header_layout s p strict =
    let h = header_tiling s p strict in
    record {
      demand3 = h.demand3;
      refused_with_2 = h.refused_with_2;
      refused_only_then = h.refused_only_then;
      layout = λ has e.
          by_test ((parse_seq_hdr s p strict).hdr.tiling.t ≡ (layout_call s p).info) (is_refusal (layout_call s p).answer)
          (λ t. absurd (refused_and_not s p strict has t e))
          (λ f. (behind s p strict has f).kept e);
      cleared = h.cleared;
    }
