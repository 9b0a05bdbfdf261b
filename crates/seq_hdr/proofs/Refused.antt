-- What is written of a header that is refused. Assumes nothing.
use mathlib.Core.Path.{◌≡◌, refl, sym, subst}
use mathlib.Core.Bool.{Bool, true, not, ◌||◌}
use mathlib.Core.List.{List}
use Prim.Native.Nat.{ℕ, ◌≤◌}
use native.Mathlib.Omega.{arith}
use lib.Dec.{T, ltb}
use Rattle.answers.specs.Numbers.{number_of, is_refusal}
use Rattle.answers.specs.declared.Answer.{Answer}
use Rattle.answers.specs.declared.Answer.TheVariants.{Accepted, InvalidSequenceHeader, InvalidTileInfo, InvalidTrailingBits}
use Rattle.getbits.specs.Chain.{then}
use Rattle.getbits.specs.Bits.{get_flag}
use Rattle.getbits.specs.declared.Place.{Place}
use Rattle.getbits.proofs.Chain.{picked}
use Rattle.seq_fields.specs.Fields.{is_mono}
use Rattle.seq_picture.specs.Level.{read_level, read_format}
use Rattle.seq_picture.specs.Picture.{read_picture}
use Rattle.seq_picture.specs.declared.Level.{Level}
use Rattle.seq_picture.specs.declared.Format.{Format}
use Rattle.seq_blocks.specs.Blocks.{read_blocks}
use Rattle.seq_inter.specs.Refs.{read_motion, read_ref_frames}
use Rattle.seq_record.specs.Zero.{no_seq_hdr}
use Rattle.seq_record.specs.declared.SequenceHeader.{SequenceHeader}
use Rattle.seq_record.specs.declared.Start.{Start}
use Rattle.seq_hdr.specs.declared.SeqRead.{SeqRead}
use Rattle.seq_hdr.specs.Tiling.{read_tiling}
use Rattle.seq_hdr.specs.Header.{read_start, unknown_profile, refused_header, check_trailing_bits, read_groups, read_head, with_tiling, parse_seq_hdr}

-- the answer is at most 3, and a refused header is the zero record
pub record Refused (r : SeqRead) : Type 0 where
  pub most_3 : number_of r.answer ≤ 3
  pub zero : is_refusal r.answer ≡ true → r.hdr ≡ no_seq_hdr

refused : (z : Answer) (p : Place) → number_of z ≤ 3 → Refused (refused_header z p)
unfolding refused_header
refused z p h = record { most_3 = h; zero = λ _. refl }

accepted : (hdr : SequenceHeader) (p : Place) → Refused (record { answer = Accepted; hdr = hdr; next = p })
accepted hdr p = record { most_3 = omega arith; zero = λ e. absurd (subst T (sym e) tt) }

trailing : (strict : Bool) (hdr : SequenceHeader) (s : List ℕ) (p : Place) → Refused (check_trailing_bits strict hdr s p)
unfolding check_trailing_bits then
trailing strict hdr s p =
    let one = get_flag s (get_flag s p).next in
    picked Refused (not strict) _ _
    (λ _. accepted hdr p)
    (λ _. picked Refused (one.next.error || not one.value) _ _ (λ _. refused InvalidTrailingBits one.next (omega arith)) (λ _. accepted hdr one.next))

groups : (start : Start) (level : Level) (format : Format) (s : List ℕ) (p : Place) → Refused (read_groups start level format s p)
unfolding read_groups then
groups start level format s p =
    let mono = is_mono format.layout in
    let reduced = level.reduced_still_picture_header in
    let picture = read_picture reduced s p in
    let blocks = read_blocks mono reduced s picture.next in
    let motion = read_motion reduced s blocks.next in
    let refs = read_ref_frames reduced s motion.next in
    picked Refused (ltb 8 refs.value.ref_frames) _ _ (λ _. refused InvalidSequenceHeader refs.next (omega arith)) (λ _. accepted _ _)

pub head_refused : (s : List ℕ) (p : Place) → Refused (read_head s p)
unfolding read_head then
head_refused s p =
    let start = read_start s p in
    let level = read_level s start.next in
    let format = read_format level.layout_idx s level.next in
    picked Refused (unknown_profile start.value.profile) _ _ (λ _. refused InvalidSequenceHeader start.next (omega arith))
    (λ _. picked Refused (ltb 3 level.layout_idx) _ _ (λ _. refused InvalidSequenceHeader level.next (omega arith))
    (λ _. picked Refused (ltb 2 format.depth_idx) _ _ (λ _. refused InvalidSequenceHeader format.next (omega arith))
    (λ _. groups start.value level.value format.value s format.next)))

pub header_refused : (s : List ℕ) (p : Place) (strict : Bool) → Refused (parse_seq_hdr s p strict)
unfolding parse_seq_hdr then
header_refused s p strict =
    let h = read_head s p in
    let tiling = read_tiling h.hdr.blocks.partition.sb128 h.hdr.picture.size h.hdr.level s h.next in
    let grain = get_flag s tiling.next in
    picked Refused (is_refusal h.answer) _ _ (λ _. head_refused s p)
    (λ _. picked Refused (is_refusal tiling.answer) _ _ (λ _. refused InvalidTileInfo tiling.next (omega arith))
    (λ _. picked Refused grain.next.error _ _ (λ _. refused InvalidSequenceHeader grain.next (omega arith))
    (λ _. trailing strict (with_tiling h.hdr tiling.value grain.value) s grain.next)))
