use mathlib.Core.Path.{refl}
use Rattle.layout_writing.specs.Write.{same_numbers, same_layout, reads_as}
use Rattle.std.proofs.Math.Bool.{and_assoc}
use Rattle.tile_write.proofs.Equal.{flags, lists}
use Rattle.tile_write.proofs.reads_as.Goals as goal

pub returns : goal.returns
unfolding same_numbers same_layout reads_as
returns c = rw (c.is_refusal.ensures, c.eq.ensures) (simp (flags, lists, and_assoc) refl)
