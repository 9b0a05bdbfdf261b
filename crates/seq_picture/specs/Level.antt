-- Level, layout and bit depth.
use Rattle.std.specs.Prelude.{ℕ, ◌-◌, ◌%◌, List, not, ◌&&◌, ltb, leb, eqb}
use Rattle.getbits.specs.Bits.{get_flag}
use Rattle.getbits.specs.Chain.{pick, then}
use Rattle.getbits.specs.declared.Place.{Place}
use Rattle.codes.specs.Codes.{get_vlc}
use Rattle.seq_fields.specs.Fields.{get_small, small_if}
use Rattle.seq_fields.specs.declared.PixelLayout.{PixelLayout}
use Rattle.seq_fields.specs.declared.PixelLayout.TheVariants.{I400, I420, I422, I444}
use Rattle.seq_picture.specs.declared.LevelRead.{LevelRead}
use Rattle.seq_picture.specs.declared.FormatRead.{FormatRead}

-- the form, the level, the tier from level 4 on, and the layout index
unfoldable pub read_level : List ℕ → Place → LevelRead
read_level s p =
    then (get_flag s p) λ reduced.
    then (get_small s reduced.next 5) λ level.
    then (small_if (leb 4 level.value && not reduced.value) s level.next 1) λ tier.
    then (get_vlc s tier.next) λ index.
    record {
      value = record { reduced_still_picture_header = reduced.value; level = level.value; tier = tier.value };
      layout_idx = index.value;
      next = index.next;
    }

-- layout index 0..3 is I420, I400, I444, I422
abbrev pub layout_of : ℕ → PixelLayout
layout_of n = pick (eqb n 0) I420 (pick (eqb n 1) I400 (pick (eqb n 2) I444 I422))

-- is the layout halved across, is it halved down?
abbrev pub ss_hor : PixelLayout → ℕ
ss_hor I400 = 1
ss_hor I420 = 1
ss_hor I422 = 1
ss_hor I444 = 0

abbrev pub ss_ver : PixelLayout → ℕ
ss_ver I400 = 1
ss_ver I420 = 1
ss_ver I422 = 0
ss_ver I444 = 0

-- bit-depth index 0 and 1 give hbd 1 and 0
abbrev pub hbd_of : ℕ → ℕ
hbd_of n = pick (ltb n 2) (1 - n) n

-- the layout of an index, and the bit-depth index, cut to eight bits
unfoldable pub read_format : ℕ → List ℕ → Place → FormatRead
read_format index s p =
    then (layout_of index) λ layout.
    then (get_vlc s p) λ depth.
    record {
      value = record { layout = layout; ss_hor = ss_hor layout; ss_ver = ss_ver layout; hbd = hbd_of (depth.value % 256) };
      depth_idx = depth.value % 256;
      next = depth.next;
    }
