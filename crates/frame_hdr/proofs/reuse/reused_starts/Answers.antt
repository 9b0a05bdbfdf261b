use mathlib.Core.List.{List}
use mathlib.Core.Path.{◌≡◌, ◌∙◌, ap}
use Prim.Native.Nat.{ℕ, ◌*◌, ◌≤◌}
use native.Mathlib.Omega.{arith}
use lib.Dec.{eqb}
use lib.ListN.{get_or, take, set}
use Rattle.getbits.specs.Chain.{pick}
use Rattle.getbits.proofs.Chain.{picked}
use Rattle.tile_layout.proofs.Laws.{closed}
use Rattle.superblocks.specs.Counts.{multiplier_of}
use Rattle.frame_layout.specs.Frame.{reused_starts}
use Rattle.frame_layout.proofs.Usable.{start_low}
use Rattle.frame_hdr.proofs.reuse.reused_starts.Goals as goal

pub returns : goal.returns
unfolding reused_starts
returns c =
    let a = c.args in
    let starts = take 65 a.starts.now in
    let multiplier = multiplier_of a.pair.frame_code a.pair.seq_code in
    let entry = pick (eqb multiplier 2) a.closing.0 (get_or starts a.tiles 0) in
    let low : entry ≤ 1024 =
    picked (λ (x : ℕ). x ≤ 1024) (eqb multiplier 2) _ _ (λ _. c.requires.3) (λ _. start_low starts a.tiles a.tiles c.requires.2 (omega arith)) in
    let v : c.number.result ≡ entry = omega (arith, c.number.ensures, c.closing_entry.ensures, low) in
    ap (set c.frame_starts.new.at a.tiles) v
    ∙ ap (λ (t : List ℕ). set t a.tiles entry) c.frame_starts.ensures
    ∙ closed (λ i. multiplier * get_or starts i 0) _ a.tiles entry (omega (arith, c.requires.1))
