-- Transforms, entropy coding and quantizers.
use Rattle.std.specs.Prelude.{ℤ, ℕ, ◌+◌, ◌-◌, ◌%◌, Bool, not, ◌&&◌, ◌||◌, List, [], ◌∷◌, pos, ◌-ℤ◌}
use Rattle.getbits.specs.Bits.{get_flag, flag_if}
use Rattle.getbits.specs.Chain.{pick, then}
use Rattle.getbits.specs.declared.Place.{Place}
use Rattle.seq_fields.specs.Fields.{small_if, bit_of}
use Rattle.getbits.specs.declared.Read.{Read}
use Rattle.seq_residual.specs.declared.Quant.{Quant}
use Rattle.seq_residual.specs.declared.Transform.{Transform}
use Rattle.seq_residual.specs.declared.Residual.{Residual}
use Rattle.seq_residual.specs.declared.Entropy.{Entropy}
use Rattle.seq_fields.specs.declared.AdaptiveBoolean.TheVariants.{Off, On, Adaptive}

-- transforms
unfoldable pub read_transform : Bool → Bool → List ℕ → Place → Read Transform
read_transform mono reduced s p =
    then (get_flag s p) λ fsc.
    then (flag_if (not fsc.value) s fsc.next) λ idtx.
    then (get_flag s idtx.next) λ ist0.
    then (get_flag s ist0.next) λ ist1.
    then (flag_if (not mono) s ist1.next) λ dctOnly.
    then (flag_if (not reduced) s dctOnly.next) λ interDdt.
    then (get_flag s interDdt.next) λ partSet.
    then (flag_if (not mono) s partSet.next) λ cctx.
    record {
      value = record {
        fsc = fsc.value;
        idtx_intra = fsc.value || idtx.value;
        ist = ist0.value ∷ ist1.value ∷ [];
        chroma_dctonly = dctOnly.value;
        inter_ddt = interDdt.value;
        reduced_tx_part_set = partSet.value;
        cctx = cctx.value;
      };
      next = cctx.next;
    }

-- trellis coded quantization, parity hiding unless it is On, and averaged CDFs
unfoldable pub read_entropy : Bool → List ℕ → Place → Read Entropy
read_entropy reduced s p =
    then (get_flag s p) λ tcq.
    then (flag_if (tcq.value && not reduced) s tcq.next) λ adaptive.
    then (flag_if (not tcq.value || adaptive.value) s adaptive.next) λ parity.
    then (flag_if (not reduced) s parity.next) λ avg.
    then (flag_if avg.value s avg.next) λ avgType.
    record {
      value = record {
        tcq = pick adaptive.value Adaptive (pick tcq.value On Off);
        parity_hiding = parity.value;
        avg_cdf = reduced || avg.value;
        avg_cdf_type = bit_of (reduced || avgType.value);
      };
      next = avgType.next;
    }

-- five bits less 23, signed; 0 where they are not sent
unfoldable pub signed_if : Bool → List ℕ → Place → Read ℤ
signed_if sent s p = then (small_if sent s p 5) λ n. record { value = pick sent (pos n.value -ℤ pos 23) (pos 0); next = n.next }

-- five bits less 23, in a byte that wraps at 256; 0 where they are not sent
unfoldable pub wrapped_if : Bool → List ℕ → Place → Read ℕ
wrapped_if sent s p = then (small_if sent s p 5) λ n. record { value = pick sent ((n.value + 256 - 23) % 256) 0; next = n.next }

-- quantizer offsets; the chroma DC offset copies the AC one where AC and DC are equal
unfoldable pub read_quant : Bool → List ℕ → Place → Read Quant
read_quant mono s p =
    then (flag_if (not mono) s p) λ separate.
    then (get_flag s separate.next) λ equal.
    then (signed_if (not equal.value) s equal.next) λ ydc.
    then (flag_if (not equal.value) s ydc.next) λ ydcOn.
    then (wrapped_if (not mono && not equal.value) s ydcOn.next) λ uvdc.
    then (flag_if (not mono && not equal.value) s uvdc.next) λ uvdcOn.
    then (wrapped_if (not mono) s uvdcOn.next) λ uvac.
    then (flag_if (not mono) s uvac.next) λ uvacOn.
    record {
      value = record {
        separate_uv_delta_q = separate.value;
        equal_ac_dc_q = equal.value;
        base_ydc_dq = ydc.value;
        ydc_dq_enabled = ydcOn.value;
        base_uvdc_dq = pick equal.value uvac.value uvdc.value;
        uvdc_dq_enabled = uvdcOn.value;
        base_uvac_dq = uvac.value;
        uvac_dq_enabled = uvacOn.value;
      };
      next = uvacOn.next;
    }

-- from the transforms to the quantizers
unfoldable pub read_residual : Bool → Bool → List ℕ → Place → Read Residual
read_residual mono reduced s p =
    then (read_transform mono reduced s p) λ transform.
    then (read_entropy reduced s transform.next) λ entropy.
    then (read_quant mono s entropy.next) λ quant.
    record {
      value = record { transform = transform.value; entropy = entropy.value; quant = quant.value };
      next = quant.next;
    }
