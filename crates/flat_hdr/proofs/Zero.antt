-- The numbers of the zero record. Assumes nothing.
use mathlib.Core.Path.{◌≡◌, refl}
use lib.IntN.{pos}
use lib.ListN.{replicate}
use Rattle.seq_record.specs.Zero.{no_seq_hdr}
use Rattle.flat_hdr.specs.Header.{flat_size, flat_dependencies, flat_picture, flat_segmentation, flat_blocks, flat_inter, flat_quant, flat_residual, flat_seq_hdr}

pub zero_numbers : flat_seq_hdr no_seq_hdr ≡ replicate 146 (pos 0)
unfolding flat_seq_hdr flat_size flat_dependencies flat_picture flat_segmentation flat_blocks flat_inter flat_quant flat_residual
zero_numbers = refl
