-- Layers, frame size and crop window, and the layers' dependencies.
use Rattle.std.specs.Prelude.{ℤ, ℕ, ◌+◌, ◌-◌, ◌^◌, List, Bool, not, ◌||◌, ltb, pos, set, replicate}
use Rattle.getbits.specs.Bits.{get_bits, bits_if, get_flag, flag_if}
use Rattle.getbits.specs.Chain.{pick, then, turns}
use Rattle.getbits.specs.declared.Place.{Place}
use Rattle.getbits.specs.declared.Read.{Read}
use Rattle.seq_picture.specs.declared.Layers.{Layers}
use Rattle.seq_picture.specs.declared.FrameSize.{FrameSize}
use Rattle.seq_picture.specs.declared.CropInfo.{CropInfo}
use Rattle.seq_picture.specs.declared.Dependencies.{Dependencies}
use Rattle.seq_picture.specs.declared.Picture.{Picture}
use Rattle.codes.specs.Codes.{vlc_if}
use Rattle.seq_fields.specs.Fields.{get_small, small_if}
use Rattle.seq_picture.specs.declared.LayerList.{LayerList}

-- the layers; the reduced form is one still picture
unfoldable pub read_layers : Bool → List ℕ → Place → Read Layers
read_layers reduced s p =
    then (small_if (not reduced) s p 3) λ lcr.
    then (flag_if (not reduced) s lcr.next) λ still.
    then (small_if (not reduced) s still.next 2) λ tlayer.
    then (small_if (not reduced) s tlayer.next 3) λ mlayer.
    then (flag_if (not reduced) s mlayer.next) λ monotonic.
    record {
      value = record {
        lcr_id = lcr.value;
        still_picture = reduced || still.value;
        max_tlayer_id = tlayer.value;
        max_mlayer_id = mlayer.value;
        monotonic = reduced || monotonic.value;
      };
      next = monotonic.next;
    }

-- a length in samples: n bits are the length less 1
unfoldable pub read_length : List ℕ → Place → ℕ → Read ℤ
read_length s p n = then (get_bits s p (pos n)) λ r. record { value = pos (r.value + 1); next = r.next }

-- the largest width and height, each with its number of bits in front
unfoldable pub read_frame_size : List ℕ → Place → Read FrameSize
read_frame_size s p =
    then (get_small s p 4) λ width_bits.
    then (get_small s width_bits.next 4) λ heightBits.
    then (read_length s heightBits.next (width_bits.value + 1)) λ width.
    then (read_length s width.next (heightBits.value + 1)) λ height.
    record {
      value = record {
        width_n_bits = width_bits.value + 1;
        height_n_bits = heightBits.value + 1;
        max_width = width.value;
        max_height = height.value;
      };
      next = height.next;
    }

-- the crop window
unfoldable pub read_crop : List ℕ → Place → Read CropInfo
read_crop s p =
    then (get_flag s p) λ enabled.
    then (vlc_if enabled.value s enabled.next) λ left.
    then (vlc_if enabled.value s left.next) λ right.
    then (vlc_if enabled.value s right.next) λ top.
    then (vlc_if enabled.value s top.next) λ bottom.
    record {
      value = record { enabled = enabled.value; left = left.value; right = right.value; top = top.value; bottom = bottom.value };
      next = bottom.next;
    }

-- the display and decoder models of a full header are read and not kept
unfoldable pub skip_models : Bool → List ℕ → Place → Place
skip_models reduced s p =
    then (flag_if (not reduced) s p) λ display.
    then (bits_if display.value s display.next (pos 4)) λ delay.
    then (flag_if (not reduced) s delay.next) λ decoder.
    then (bits_if decoder.value s decoder.next (pos 32)) λ units.
    then (vlc_if decoder.value s units.next) λ decBuf.
    then (vlc_if decoder.value s decBuf.next) λ encBuf.
    encBuf.next

-- layer n's dependencies: n bits if they are sent, else 2 ^ (n - 1) - 1
unfoldable pub layer : Bool → List ℕ → ℕ → LayerList → LayerList
layer sent s n r =
    then (small_if sent s r.next n) λ bits.
    record { present = r.present; dependencies = set r.dependencies n (pick sent bits.value (2 ^ (n - 1) - 1)); next = bits.next }

-- the dependencies of the layers from 1 to one below the maximum
unfoldable pub read_layer_list : ℕ → List ℕ → Place → LayerList
read_layer_list max s p =
    then (flag_if (ltb 0 max) s p) λ sent.
    turns (max - 1) (λ i. layer sent.value s (i + 1))
    (record { present = sent.value; dependencies = replicate 8 0; next = sent.next })

-- the temporal layers' dependencies, then the embedded layers'
unfoldable pub read_dependencies : ℕ → ℕ → List ℕ → Place → Read Dependencies
read_dependencies maxTlayer maxMlayer s p =
    then (read_layer_list maxTlayer s p) λ t.
    then (read_layer_list maxMlayer s t.next) λ m.
    record {
      value = record {
        tlayer_dependency_present = t.present;
        mlayer_dependency_present = m.present;
        tlayer_dependencies = t.dependencies;
        mlayer_dependencies = m.dependencies;
      };
      next = m.next;
    }

-- from the layers to their dependencies
unfoldable pub read_picture : Bool → List ℕ → Place → Read Picture
read_picture reduced s p =
    then (read_layers reduced s p) λ layers.
    then (read_frame_size s layers.next) λ size.
    then (read_crop s size.next) λ crop.
    then (skip_models reduced s crop.next) λ behind.
    then (read_dependencies layers.value.max_tlayer_id layers.value.max_mlayer_id s behind) λ dependencies.
    record {
      value = record { layers = layers.value; size = size.value; crop = crop.value; dependencies = dependencies.value };
      next = dependencies.next;
    }
