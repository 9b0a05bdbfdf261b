use mathlib.Core.Bool.{true, false}
use mathlib.Core.List.{List}
use mathlib.Core.Path.{◌≡◌, refl, sym, ◌∙◌}
use Prim.Native.Nat.{ℕ, ◌+◌, ◌/◌, ◌%◌, ◌^◌, ◌<◌, ◌≤◌}
use native.Mathlib.Omega.{arith}
use borrow.Author.Rules.{rules}
use lib.Dec.{eqb}
use lib.IntN.{pos}
use mir.Facts.{to_z-of_z}
use mir.Syntax.{w16, w32}
use mir.Val.{to_z, of_z}
use Rattle.getbits.specs.Bits.{bits_at, bit_count, position, place_at, signed_of, get_flag, get_sbits}
use Rattle.getbits.specs.declared.Place.{Place}
use Rattle.getbits.proofs.Chain.{through}
use Rattle.getbits.proofs.Fields.{bits_lt}
use Rattle.getbits.proofs.Parts.{first_bits, first_read, last_read, flag_read}
use Rattle.seg_info.specs.Inner.{with_features}
use Rattle.seg_info.specs.Seg.{clamped, delta_if, segment}
use Rattle.seg_info.specs.declared.SegmentationDataSet.{SegmentationDataSet}
use Rattle.seg_info.proofs.Readings.{from_readings}
use Rattle.seg_info.proofs.features_of.Goals as goal

-- the 13 bits behind a place
module _ (s : List ℕ) (p : Place) (x : ℕ) (e : x ≡ bits_at s (position s p) 13) (room : position s p + 13 ≤ bit_count s) where
  abbrev at : ℕ → Place
  at k = place_at (position s p + k) p.error

  -- the flag behind k bits, with r others of x behind it
  flag : (k r : ℕ) → k + 1 + r ≡ 13 → get_flag s (at k) ≡ record { value = eqb (x / 2 ^ r % 2) 1; next = at (k + 1) }
  flag k r f =
      let w : x ≡ bits_at s (position s p) (k + 1 + r) = rw f e in
      flag_read s (at k) (last_read s p k 1 (x / 2 ^ r) (omega arith) (first_bits s p (k + 1) r x (omega arith) w) (omega arith))

  first : get_flag s p ≡ record { value = eqb (x / 4096) 1; next = at 1 }
  first = flag_read s p (first_read s p 1 12 x room e (omega arith))

  no_delta : record { value = pos 0; next = at 1 } ≡ delta_if false s (at 1)
  unfolding delta_if
  no_delta = refl

  ten : get_sbits s (at 1) (pos 10) ≡ record { value = signed_of 10 (x / 4 % 1024); next = at 11 }
  unfolding get_sbits
  ten = rw (last_read s p 1 10 (x / 4) (omega arith) (first_bits s p 11 2 x room e) (omega arith))

  a_delta : record { value = clamped (signed_of 10 (x / 4 % 1024)); next = at 11 } ≡ delta_if true s (at 1)
  unfolding delta_if
  a_delta = sym (through _ _ (sym ten))

  module _ (n : ℕ) (seg : SegmentationDataSet) where
    unset : x < 4096 → segment s n (record { value = seg; next = p })
        ≡ record { value = with_features (record { changed = false; delta = pos 0; skip = eqb (x / 2048 % 2) 1; globalmv = eqb (x / 1024 % 2) 1 }) n seg; next = at 3 }
    unset h =
        let none : x / 4096 ≡ 0 = omega arith in
        let f : record { value = false; next = at 1 } ≡ get_flag s p = sym (first ∙ rw none) in
        from_readings s n seg p (record { value = false; next = at 1 }) (record { value = pos 0; next = at 1 }) _ _ f no_delta (sym (flag 1 11 refl)) (sym (flag 2 10 refl))

    set : 4096 ≤ x → segment s n (record { value = seg; next = p })
        ≡ record { value = with_features (record { changed = true; delta = clamped (signed_of 10 (x / 4 % 1024)); skip = eqb (x / 2 % 2) 1; globalmv = eqb (x % 2) 1 }) n seg; next = at 13 }
    set h =
        let one : x / 4096 ≡ 1 = omega (arith, e, bits_lt s (position s p) 13) in
        let f : record { value = true; next = at 1 } ≡ get_flag s p = sym (first ∙ rw one) in
        let last : record { value = eqb (x % 2) 1; next = at 13 } ≡ get_flag s (at 12) = sym (flag_read s (at 12) (last_read s p 12 1 x room e (omega arith))) in
        from_readings s n seg p (record { value = true; next = at 1 }) (record { value = clamped (signed_of 10 (x / 4 % 1024)); next = at 11 }) _ _ f a_delta (sym (flag 11 1 refl)) last

pub returns-then-bits-lt4096 : goal.returns-then-bits-lt4096
returns-then-bits-lt4096 c = λ s p n seg e room. unset s p c.args.bits e room n seg c.if-bits-lt4096.true

pub returns : goal.returns
returns c =
    let back : to_z w32 (of_z w32 c.ten_bits.result) ≡ c.ten_bits.result = search rules in
    let d = c.clamp.ensures in
    λ s p n seg e room.
    rw (to_z-of_z {w = w16} (record { sfits = c.clamp.type_inv }), d, back, c.ten_bits.ensures) (set s p c.args.bits e room n seg c.if-bits-lt4096.false)
