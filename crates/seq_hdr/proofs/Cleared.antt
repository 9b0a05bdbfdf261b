-- Behind the closing entries of a header's layout stand zeros, whatever the answer. Assumes nothing.
use mathlib.Core.Path.{◌≡◌}
use mathlib.Core.Bool.{Bool, true, false, not, ◌||◌}
use mathlib.Core.List.{List}
use Prim.Native.Nat.{ℕ}
use Rattle.answers.specs.Numbers.{is_refusal}
use Rattle.answers.specs.declared.Answer.{Answer}
use Rattle.answers.specs.declared.Answer.TheVariants.{InvalidSequenceHeader, InvalidTileInfo, InvalidTrailingBits}
use Rattle.getbits.specs.Bits.{get_flag}
use Rattle.getbits.specs.Chain.{then}
use Rattle.getbits.specs.declared.Place.{Place}
use Rattle.getbits.proofs.Chain.{picked}
use Rattle.seq_picture.specs.declared.FrameSize.{FrameSize}
use Rattle.seq_picture.specs.declared.Level.{Level}
use Rattle.seq_record.specs.declared.SequenceHeader.{SequenceHeader}
use Rattle.tile_layout.specs.Cleared.{Cleared}
use Rattle.tile_layout.specs.Limits.{no_tile_info}
use Rattle.tile_layout.proofs.Cleared.{none_cleared, read_over_lem}
use Rattle.seq_hdr.specs.declared.SeqRead.{SeqRead}
use Rattle.seq_hdr.specs.Tiling.{tiling_args, tile_info_if, read_tiling}
use Rattle.seq_hdr.specs.Header.{refused_header, check_trailing_bits, read_head, with_tiling, parse_seq_hdr}
use Rattle.seq_hdr.proofs.Refused.{head_refused}

abbrev Clear : SeqRead → Type 0
Clear r = Cleared r.hdr.tiling.t

refused : (z : Answer) (p : Place) → Clear (refused_header z p)
unfolding refused_header
refused z p = none_cleared

layout : (cond : Bool) (sb128 : ℕ) (size : FrameSize) (level : Level) (s : List ℕ) (p : Place)
    → is_refusal (tile_info_if cond sb128 size level s p).answer ≡ false → Cleared (tile_info_if cond sb128 size level s p).info
unfolding tile_info_if
layout true sb128 size level s p e = (read_over_lem s p no_tile_info (tiling_args sb128 size level)).cleared e
layout false sb128 size level s p e = none_cleared

tiling_cleared : (sb128 : ℕ) (size : FrameSize) (level : Level) (s : List ℕ) (p : Place)
    → is_refusal (read_tiling sb128 size level s p).answer ≡ false → Cleared (read_tiling sb128 size level s p).value.t
unfolding read_tiling then
tiling_cleared sb128 size level s p e = layout (get_flag s p).value sb128 size level s _ e

trailing : (strict : Bool) (hdr : SequenceHeader) (s : List ℕ) (p : Place) → Cleared hdr.tiling.t → Clear (check_trailing_bits strict hdr s p)
unfolding check_trailing_bits then
trailing strict hdr s p c =
    let one = get_flag s (get_flag s p).next in
    picked Clear (not strict) _ _ (λ _. c) (λ _. picked Clear (one.next.error || not one.value) _ _ (λ _. refused InvalidTrailingBits one.next) (λ _. c))

pub header_cleared : (s : List ℕ) (p : Place) (strict : Bool) → Clear (parse_seq_hdr s p strict)
unfolding parse_seq_hdr then
header_cleared s p strict =
    let h = read_head s p in
    let tiling = read_tiling h.hdr.blocks.partition.sb128 h.hdr.picture.size h.hdr.level s h.next in
    let grain = get_flag s tiling.next in
    picked Clear (is_refusal h.answer) _ _ (λ e. rw ((head_refused s p).zero e) none_cleared)
    (λ _. picked Clear (is_refusal tiling.answer) _ _ (λ _. refused InvalidTileInfo tiling.next)
    (λ e. picked Clear grain.next.error _ _ (λ _. refused InvalidSequenceHeader grain.next)
    (λ _. trailing strict (with_tiling h.hdr tiling.value grain.value) s grain.next (tiling_cleared _ _ _ s h.next e))))
