-- Inter tools, from the long-term frame ids to the screen content tools.
use Rattle.std.specs.Prelude.{ℕ, ◌+◌, List, Bool, true, not, ◌&&◌, ◌||◌, ltb}
use Rattle.getbits.specs.Bits.{get_flag, flag_if}
use Rattle.getbits.specs.Chain.{pick, then}
use Rattle.getbits.specs.declared.Place.{Place}
use Rattle.codes.specs.Codes.{uniform_if}
use Rattle.seq_fields.specs.Fields.{small_if}
use Rattle.getbits.specs.declared.Read.{Read}
use Rattle.seq_inter.specs.declared.Drl.{Drl}
use Rattle.seq_inter.specs.declared.Mv.{Mv}
use Rattle.seq_inter.specs.declared.Inter.{Inter}
use Rattle.seq_inter.specs.declared.Screen.{Screen}
use Rattle.seq_inter.specs.declared.Tip.{Tip}
use Rattle.seq_fields.specs.declared.AdaptiveBoolean.TheVariants.{Off, On, Adaptive}

-- a number of bits from 1 to max; 1 where it is not sent
unfoldable pub count_if : Bool → List ℕ → Place → ℕ → Read ℕ
count_if sent s p max = then (uniform_if sent s p max) λ n. record { value = n.value + 1; next = n.next }

-- long-term frame ids and the bits of the motion vector lists
unfoldable pub read_drl : Bool → List ℕ → Place → Read Drl
read_drl reduced s p =
    then (small_if (not reduced) s p 3) λ ltBits.
    then (count_if (not reduced) s ltBits.next 5) λ drlBits.
    then (flag_if (not reduced) s drlBits.next) λ frameDrl.
    then (count_if true s frameDrl.next 3) λ bvpBits.
    then (get_flag s bvpBits.next) λ maxBvp.
    then (small_if (not reduced) s maxBvp.next 2) λ sameRef.
    record {
      value = record {
        number_of_bits_for_lt_frame_id = ltBits.value;
        def_max_drl_bits = drlBits.value;
        allow_frame_max_drl_bits = frameDrl.value;
        def_max_bvp_drl_bits = bvpBits.value;
        allow_max_bvp_drl_bits = maxBvp.value;
        num_same_ref_comp = sameRef.value;
      };
      next = sameRef.next;
    }

-- temporal interpolation and compound tools; with tip set one further bit is read and ignored
unfoldable pub read_tip : Bool → List ℕ → Place → Read Tip
read_tip reduced s p =
    then (flag_if (not reduced) s p) λ tip.
    then (flag_if tip.value s tip.next) λ ignored.
    then (flag_if tip.value s ignored.next) λ holeFill.
    then (flag_if (not reduced) s holeFill.next) λ mvTraj.
    then (get_flag s mvTraj.next) λ bawp.
    then (flag_if (not reduced) s bawp.next) λ cwp.
    then (flag_if (not reduced) s cwp.next) λ impMskBld.
    then (flag_if (not reduced) s impMskBld.next) λ dbSubPu.
    then (flag_if (tip.value && dbSubPu.value) s dbSubPu.next) λ explicitQp.
    record {
      value = record {
        tip = tip.value;
        tip_hole_fill = holeFill.value;
        mv_traj = mvTraj.value;
        bawp = bawp.value;
        cwp = cwp.value;
        imp_msk_bld = impMskBld.value;
        db_sub_pu = dbSubPu.value;
        tip_explicit_qp = explicitQp.value;
      };
      next = explicitQp.next;
    }

-- refinement and coding of motion vectors, global motion, refresh flags
unfoldable pub read_mv : Bool → Bool → List ℕ → Place → Read Mv
read_mv reduced tip s p =
    then (small_if (not reduced) s p 2) λ opfl.
    then (flag_if (not reduced) s opfl.next) λ refine.
    then (flag_if (tip && (ltb 0 opfl.value || refine.value)) s refine.next) λ tipRefine.
    then (flag_if (not reduced) s tipRefine.next) λ bru.
    then (flag_if (not reduced) s bru.next) λ adaptive.
    then (flag_if (not reduced) s adaptive.next) λ signDerive.
    then (flag_if (not reduced) s signDerive.next) λ flexRes.
    then (flag_if (not reduced) s flexRes.next) λ global.
    then (flag_if (not reduced) s global.next) λ shortRefresh.
    record {
      value = record {
        opfl_refine = ltb 0 opfl.value;
        refine_mv = refine.value;
        tip_refine_mv = tipRefine.value;
        bru = bru.value;
        adaptive_mvd = adaptive.value;
        mvd_sign_derive = signDerive.value;
        flex_mvres = flexRes.value;
        global_motion = global.value;
        short_refresh_frame_flags = shortRefresh.value;
      };
      next = shortRefresh.next;
    }

-- screen content tools, and integer motion vectors if the tools may be on; adaptive where not sent
unfoldable pub read_screen : Bool → List ℕ → Place → Read Screen
read_screen reduced s p =
    then (flag_if (not reduced) s p) λ select.
    then (flag_if (not reduced && not select.value) s select.next) λ on.
    then (select.value || on.value) λ sent.
    then (flag_if sent s on.next) λ mvSelect.
    then (flag_if (sent && not mvSelect.value) s mvSelect.next) λ mvOn.
    record {
      value = record {
        screen_content_tools = pick (reduced || select.value) Adaptive (pick on.value On Off);
        force_integer_mv = pick (not sent || mvSelect.value) Adaptive (pick mvOn.value On Off);
      };
      next = mvOn.next;
    }

-- from the long-term frame ids to the screen content tools
unfoldable pub read_inter : Bool → List ℕ → Place → Read Inter
read_inter reduced s p =
    then (read_drl reduced s p) λ drl.
    then (read_tip reduced s drl.next) λ tip.
    then (read_mv reduced tip.value.tip s tip.next) λ mv.
    then (read_screen reduced s mv.next) λ screen.
    record {
      value = record { drl = drl.value; tip = tip.value; mv = mv.value; screen = screen.value };
      next = screen.next;
    }
