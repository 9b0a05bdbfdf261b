-- What holds of every record that is read whole holds of an accepted header's. Assumes nothing.
use mathlib.Core.Path.{◌≡◌, refl}
use mathlib.Core.Bool.{Bool, false, not, ◌||◌}
use mathlib.Core.List.{List}
use Prim.Native.Nat.{ℕ}
use Rattle.answers.specs.Numbers.{is_refusal}
use Rattle.getbits.specs.Bits.{get_flag}
use Rattle.getbits.specs.Chain.{then}
use Rattle.getbits.specs.declared.Place.{Place}
use Rattle.getbits.proofs.Chain.{contrary, picked}
use Rattle.seq_record.specs.declared.SequenceHeader.{SequenceHeader}
use Rattle.seq_hdr.specs.declared.SeqRead.{SeqRead}
use Rattle.seq_hdr.specs.Tiling.{TilingRead, read_tiling}
use Rattle.seq_hdr.specs.Header.{refused_header, check_trailing_bits, read_head, with_tiling, parse_seq_hdr}

-- the tiling behind a record that is still without it
abbrev pub tiling_of : SequenceHeader → List ℕ → Place → TilingRead
tiling_of hdr s p = read_tiling hdr.blocks.partition.sb128 hdr.picture.size hdr.level s p

module _ (P : SequenceHeader → Type 0) where
  abbrev Kept : SeqRead → Type 0
  Kept r = is_refusal r.answer ≡ false → P r.hdr

  -- strict or not, the record stays
  end_kept : (strict : Bool) (hdr : SequenceHeader) (s : List ℕ) (p : Place) → P hdr → Kept (check_trailing_bits strict hdr s p)
  unfolding check_trailing_bits refused_header then
  end_kept strict hdr s p h =
      let one = get_flag s (get_flag s p).next in
      picked Kept (not strict) _ _
      (λ _ _. h)
      (λ _. picked Kept (one.next.error || not one.value) _ _ (λ _ e. contrary refl e) (λ _ _. h))

  pub accepted_header : (s : List ℕ) (p : Place) (strict : Bool)
      → let head = read_head s p in
      (is_refusal head.answer ≡ false → is_refusal (tiling_of head.hdr s head.next).answer ≡ false
      → (grain : Bool) → P (with_tiling head.hdr (tiling_of head.hdr s head.next).value grain))
      → is_refusal (parse_seq_hdr s p strict).answer ≡ false → P (parse_seq_hdr s p strict).hdr
  unfolding parse_seq_hdr refused_header then
  accepted_header s p strict whole =
      let head = read_head s p in
      let tiling = tiling_of head.hdr s head.next in
      let grain = get_flag s tiling.next in
      picked Kept (is_refusal head.answer) _ _
      (λ d e. contrary d e)
      (λ d.
      picked Kept (is_refusal tiling.answer) _ _
      (λ _ e. contrary refl e)
      (λ z.
      picked Kept grain.next.error _ _
      (λ _ e. contrary refl e)
      (λ _. end_kept strict (with_tiling head.hdr tiling.value grain.value) s grain.next (whole d z grain.value))))
