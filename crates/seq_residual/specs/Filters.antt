-- Loop filters.
use Rattle.std.specs.Prelude.{ℕ, ◌+◌, ◌*◌, Bool, not, ◌&&◌, List, [], ◌∷◌, ◌==◌}
use Rattle.getbits.specs.Bits.{get_flag, flag_if}
use Rattle.getbits.specs.Chain.{pick, then}
use Rattle.getbits.specs.declared.Place.{Place}
use Rattle.seq_fields.specs.Fields.{get_small, bit_of}
use Rattle.seq_fields.specs.declared.AdaptiveBoolean.{AdaptiveBoolean}
use Rattle.seq_fields.specs.declared.AdaptiveBoolean.TheVariants.{Off, On, Adaptive}
use Rattle.seq_residual.specs.declared.RestorationRead.{RestorationRead}
use Rattle.getbits.specs.declared.Read.{Read}
use Rattle.seq_residual.specs.declared.Filters.{Filters}

-- the Wiener filters that are off: bit 1 is the NS one, bit 0 the PC one
abbrev pub wiener_mask : Bool → Bool → ℕ
wiener_mask noNs noPc = 2 * bit_of noNs + bit_of noPc

-- restoration: luma's mask, and chroma's, which never has the PC filter
unfoldable pub read_restoration : List ℕ → Place → RestorationRead
read_restoration s p =
    then (get_flag s p) λ restoration.
    then (flag_if restoration.value s restoration.next) λ noPc.
    then (flag_if restoration.value s noPc.next) λ noNs.
    then (flag_if restoration.value s noNs.next) λ separate.
    then (flag_if separate.value s separate.next) λ noNsUv.
    record {
      restoration = restoration.value;
      mask = wiener_mask noNs.value noPc.value;
      uv_mask =
          pick separate.value (wiener_mask noNsUv.value restoration.value) (wiener_mask noNs.value restoration.value);
      next = noNsUv.next;
    }

-- On, Off or Adaptive, in this order of questions
abbrev pub on_skip_tx : Bool → Bool → AdaptiveBoolean
on_skip_tx on off = pick on On (pick off Off Adaptive)

-- loop filters
unfoldable pub read_filters : Bool → ℕ → List ℕ → Place → Read Filters
read_filters reduced sb128 s p =
    then (get_flag s p) λ across.
    then (get_flag s across.next) λ cdef.
    then (get_flag s cdef.next) λ gdf.
    then (flag_if (gdf.value && sb128 == 0) s gdf.next) λ gdfUnit.
    then (read_restoration s gdfUnit.next) λ rst.
    then (get_flag s rst.next) λ ccso.
    then (flag_if ccso.value s ccso.next) λ ccsoUnit.
    then (flag_if (not reduced) s ccsoUnit.next) λ on.
    then (flag_if (not reduced && not on.value) s on.next) λ off.
    then (get_small s off.next 2) λ parBits.
    record {
      value = record {
        disable_loopfilters_across_tiles = across.value;
        cdef = cdef.value;
        gdf = gdf.value;
        gdf_unit_matches_sbsz = gdfUnit.value;
        restoration = rst.restoration;
        rst_disable_mask = rst.mask ∷ rst.uv_mask ∷ [];
        ccso = ccso.value;
        ccso_unit_matches_sbsz = ccsoUnit.value;
        cdef_on_skiptx = on_skip_tx on.value off.value;
        df_par_bits = 2 + parBits.value;
      };
      next = parBits.next;
    }
