-- The layout of a header is always read for arguments in the domain. Assumes nothing.
use mathlib.Core.Path.{◌≡◌, refl, subst}
use mathlib.Core.Bool.{Bool, true, false, not, ◌&&◌}
use mathlib.Core.List.{List}
use mathlib.Core.Logic.{inl}
use Prim.Native.Nat.{ℕ, ◌+◌, ◌^◌, ◌≤◌, ◌<◌}
use native.Mathlib.Nat.{mod-le, lt_of_le_of_lt, lt_of_lt_of_le}
use native.Mathlib.Omega.{arith}
use lib.Dec.{T, ltb, leb}
use lib.IntN.{pos}
use lib.Pow.{pow_pos, pow_mono}
use Rattle.answers.specs.Numbers.{is_refusal}
use Rattle.answers.specs.declared.Answer.TheVariants.{InvalidSequenceHeader}
use Rattle.getbits.specs.Chain.{pick, then}
use Rattle.getbits.specs.Bits.{get_flag, flag_if, get_bits}
use Rattle.getbits.specs.declared.Place.{Place}
use Rattle.tile_layout.specs.Limits.{unsigned, in_domain}
use Rattle.tile_layout.proofs.Domain.{in_domain_lem}
use Rattle.seq_fields.specs.Fields.{get_small, small_if, is_mono}
use Rattle.seq_fields.proofs.Bounds.{bits_below}
use Rattle.seq_picture.specs.declared.FrameSize.{FrameSize}
use Rattle.seq_picture.specs.declared.Level.{Level}
use Rattle.seq_picture.specs.Level.{read_level, read_format}
use Rattle.seq_picture.specs.Picture.{read_length, read_layers, read_frame_size, read_picture}
use Rattle.seq_blocks.specs.Blocks.{sb_code, read_partition, read_blocks}
use Rattle.seq_inter.specs.Refs.{read_motion, read_ref_frames}
use Rattle.seq_hdr.specs.declared.SeqRead.{SeqRead}
use Rattle.seq_hdr.specs.Tiling.{tiling_args}
use Rattle.seq_hdr.specs.Header.{read_start, unknown_profile, refused_header, read_groups, read_head}
use Rattle.seq_hdr.specs.HeaderLayout.{args_before}

small_lt : (s : List ℕ) (p : Place) (n : ℕ) → (get_small s p n).value < 2 ^ n
unfolding get_small then
small_lt s p n = lt_of_le_of_lt (mod-le (get_bits s p (pos n)).value 256) (bits_below s p n refl)

small_if_lt : (cond : Bool) (s : List ℕ) (p : Place) (n : ℕ) → (small_if cond s p n).value < 2 ^ n
unfolding small_if
small_if_lt true s p n = small_lt s p n
small_if_lt false s p n = pow_pos n

-- a width or a height is 1 to 65,536
record Size (n : ℕ) : Type 0 where
  some : 1 ≤ n
  most : n ≤ 65536

length_in : (s : List ℕ) (p : Place) (n : ℕ) → n ≤ 16 → Size (unsigned (read_length s p n).value)
unfolding read_length then
length_in s p n h =
    let v = lt_of_lt_of_le (bits_below s p n refl) (pow_mono {j = 16} h) in
    record { some = omega arith; most = omega (arith, v) }

-- the frame size of a picture
record Sized (size : FrameSize) : Type 0 where
  width : Size (unsigned size.max_width)
  height : Size (unsigned size.max_height)

size_in : (s : List ℕ) (p : Place) → Sized (read_frame_size s p).value
unfolding read_frame_size then
size_in s p =
    let a = get_small s p 4 in
    let b = get_small s a.next 4 in
    let w = read_length s b.next (a.value + 1) in
    record {
      width = length_in s b.next (a.value + 1) (omega (arith, small_lt s p 4));
      height = length_in s w.next (b.value + 1) (omega (arith, small_lt s a.next 4));
    }

picture_in : (reduced : Bool) (s : List ℕ) (p : Place) → Sized (read_picture reduced s p).value.size
unfolding read_picture then
picture_in reduced s p = size_in s (read_layers reduced s p).next

-- level and tier
record Leveled (l : Level) : Type 0 where
  level : l.level ≤ 31
  tier : l.tier ≤ 1

level_in : (s : List ℕ) (p : Place) → Leveled (read_level s p).value
unfolding read_level then
level_in s p =
    let r = get_flag s p in
    let l = get_small s r.next 5 in
    record { level = omega (arith, small_lt s r.next 5); tier = omega (arith, small_if_lt (leb 4 l.value && not r.value) s l.next 1) }

code_le : (a b : Bool) → sb_code a b ≤ 2
code_le true b = omega arith
code_le false true = omega arith
code_le false false = omega arith

blocks_in : (mono reduced : Bool) (s : List ℕ) (p : Place) → (read_blocks mono reduced s p).value.partition.sb128 ≤ 2
unfolding read_blocks read_partition then
blocks_in mono reduced s p =
    let sb256 = get_flag s p in
    code_le sb256.value (flag_if (not sb256.value) s sb256.next).value

-- what the fields before the tiling say
args_in : (sb128 : ℕ) (size : FrameSize) (level : Level) → sb128 ≤ 2 → Sized size → Leveled level → in_domain (tiling_args sb128 size level) ≡ true
args_in sb128 size level b z l =
    in_domain_lem (tiling_args sb128 size level)
    (record {
      some_width = z.width.some;
      most_width = z.width.most;
      some_height = z.height.some;
      most_height = z.height.most;
      most_level = l.level;
      most_tier = l.tier;
      pair = inl (b, refl, refl);
    })

-- a question before the tiling: a header that it refuses is refused
ask : (P : SeqRead → Type 0) (t : Bool) (q : Place) {b : SeqRead} → (is_refusal b.answer ≡ false → P b)
    → is_refusal (pick t (refused_header InvalidSequenceHeader q) b).answer ≡ false → P (pick t (refused_header InvalidSequenceHeader q) b)
unfolding refused_header
ask P true q f e = absurd (subst T e tt)
ask P false q f e = f e

pub head_in : (s : List ℕ) (p : Place) → is_refusal (read_head s p).answer ≡ false → in_domain (args_before (read_head s p).hdr) ≡ true
unfolding read_head read_groups then
head_in s p =
    let start = read_start s p in
    let level = read_level s start.next in
    let format = read_format level.layout_idx s level.next in
    let mono = is_mono format.value.layout in
    let reduced = level.value.reduced_still_picture_header in
    let picture = read_picture reduced s format.next in
    let blocks = read_blocks mono reduced s picture.next in
    let motion = read_motion reduced s blocks.next in
    let refs = read_ref_frames reduced s motion.next in
    let P : SeqRead → Type 0 = λ r. in_domain (args_before r.hdr) ≡ true in
    ask P (unknown_profile start.value.profile) start.next
    (ask P (ltb 3 level.layout_idx) level.next
    (ask P (ltb 2 format.depth_idx) format.next
    (ask P (ltb 8 refs.value.ref_frames) refs.next
    (λ _.
    args_in blocks.value.partition.sb128 picture.value.size level.value
    (blocks_in mono reduced s picture.next) (picture_in reduced s format.next) (level_in s start.next)))))
