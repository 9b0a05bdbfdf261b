use mathlib.Core.Path.{◌≡◌, refl, sym, ◌∙◌}
use Prim.Native.Nat.{ℕ, ◌*◌, ◌<◌}
use native.Mathlib.Omega.{arith}
use lib.ListN.{get_or, take, length-set}
use lib.Seq.{get_or-take}
use Rattle.flat.proofs.Room.{cleared_front}
use Rattle.tile_layout.proofs.Laws.{stored}
use Rattle.tile_layout.specs.Layout.{tabulate}
use Rattle.superblocks.specs.Counts.{multiplier_of}
use Rattle.superblocks.proofs.Counts.{low_multiplier, start_fits}
use Rattle.frame_layout.proofs.Usable.{start_low}
use Rattle.frame_hdr.proofs.reuse.frame_starts.Goals as goal

pub loop_i_init : goal.loop_i_init
unfolding tabulate
loop_i_init c =
    (omega arith, cleared_front _ c.args.at.now c.requires.0 c.clear_starts.ensures, refl)

pub loop_i_preserved : goal.loop_i_preserved
loop_i_preserved c =
    let a = c.args in
    let l = c.loop-i in
    let starts = a.starts.now in
    let few : l.i < 65 = omega (arith, c.requires.1, c.loop-i-test.true) in
    let g = c.seq_start.ensures ∙ sym (get_or-take 65 starts l.i 0 few) in
    let m = multiplier_of a.pair.frame_code a.pair.seq_code in
    -- where tile i starts
    let starts_of : ℕ → ℕ = λ i. m * get_or (take 65 starts) i 0 in
    let v : c.number.result ≡ starts_of l.i =
    c.number.ensures ∙ rw (c.in_frame.ensures, g) (start_fits m (get_or (take 65 starts) l.i 0) (low_multiplier _ _) (start_low (take 65 starts) a.tiles l.i c.requires.2 (omega (arith, c.loop-i-test.true)))) in (
      omega (arith, c.loop-i-test.true),
      rw l.invariant.1 (stored starts_of _ l.i c.number.result v few),
      length-set l.at l.i _ ∙ l.invariant.2,
    )
