-- Motion modes and reference frames.
use Rattle.std.specs.Prelude.{ℕ, ◌+◌, ◌-◌, ◌*◌, List, Bool, not, ◌||◌}
use Rattle.getbits.specs.Bits.{get_flag, flag_if}
use Rattle.getbits.specs.Chain.{pick, then}
use Rattle.getbits.specs.declared.Place.{Place}
use Rattle.codes.specs.Codes.{bit_length}
use Rattle.seq_fields.specs.Fields.{small_if, bit_of}
use Rattle.getbits.specs.declared.Read.{Read}
use Rattle.seq_inter.specs.declared.Motion.{Motion}
use Rattle.seq_inter.specs.declared.RefFrames.{RefFrames}

-- the motion modes as a mask; mode 0, translation, is always there
abbrev pub motion_modes : Bool → Bool → Bool → Bool → ℕ
motion_modes m1 m2 m3 m4 = 1 + 2 * bit_of m1 + 4 * bit_of m2 + 8 * bit_of m3 + 16 * bit_of m4

-- the bits of an order hint; the reduced form has none
abbrev pub order_hint_bits : Bool → ℕ → ℕ
order_hint_bits reduced n = pick reduced 0 (n + 1)

-- motion modes, and what a full header says of motion vectors and order hints; mode 3 is a warp delta
unfoldable pub read_motion : Bool → List ℕ → Place → Read Motion
read_motion reduced s p =
    then (flag_if (not reduced) s p) λ m1.
    then (flag_if (not reduced) s m1.next) λ m2.
    then (flag_if (not reduced) s m2.next) λ m3.
    then (flag_if (not reduced) s m3.next) λ m4.
    then (flag_if (m1.value || m2.value || m3.value || m4.value) s m4.next) λ frameModes.
    then (flag_if m3.value s frameModes.next) λ sixParam.
    then (flag_if (not reduced) s sixParam.next) λ masked.
    then (flag_if (not reduced) s masked.next) λ mvs.
    then (small_if mvs.value s mvs.next 1) λ mvsMode.
    then (small_if (not reduced) s mvsMode.next 4) λ hintBits.
    record {
      value = record {
        motion_modes = motion_modes m1.value m2.value m3.value m4.value;
        frame_motion_modes_present = frameModes.value;
        six_param_warp_delta = sixParam.value;
        masked_compound = masked.value;
        ref_frame_mvs = mvs.value;
        reduced_ref_frame_mvs_mode = mvsMode.value;
        order_hint_n_bits = order_hint_bits reduced hintBits.value;
      };
      next = hintBits.next;
    }

-- 0 is off, 1 constrained, 2 always
abbrev pub drl_reorder : Bool → Bool → ℕ
drl_reorder off constrained = pick off 0 (pick constrained 1 2)

-- how many reference frames: 2 in the reduced form, else as sent, else 8
abbrev pub ref_frames : Bool → Bool → ℕ → ℕ
ref_frames reduced sent n = pick reduced 2 (pick sent (n + 1) 8)

-- the bits of a reference frame's number, 0 in the reduced form
abbrev pub ref_frames_log2 : Bool → ℕ → ℕ
ref_frames_log2 reduced n = pick reduced 0 (bit_length (n - 1))

-- the motion vector bank and the number of reference frames
unfoldable pub read_ref_frames : Bool → List ℕ → Place → Read RefFrames
read_ref_frames reduced s p =
    then (get_flag s p) λ bank.
    then (get_flag s bank.next) λ off.
    then (flag_if (not off.value) s off.next) λ constrained.
    then (flag_if (not reduced) s constrained.next) λ explicit.
    then (flag_if (not reduced) s explicit.next) λ sent.
    then (small_if sent.value s sent.next 4) λ count.
    then (ref_frames reduced sent.value count.value) λ frames.
    record {
      value = record {
        refmv_bank = bank.value;
        drl_reorder = drl_reorder off.value constrained.value;
        explicit_ref_frame_map = explicit.value;
        ref_frames = frames;
        ref_frames_log2 = ref_frames_log2 reduced frames;
      };
      next = count.next;
    }
