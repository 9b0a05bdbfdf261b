use mathlib.Core.List.{List, [], ◌∷◌, ◌++◌}
use mathlib.Core.Path.{◌≡◌, refl, sym, ◌∙◌, ap, ap₂}
use Prim.Native.Nat.{ℕ, ◌+◌, ◌*◌, min, ◌≤◌, ◌<◌}
use native.Mathlib.Nat.{mul-le-mul_left, mul-zero}
use native.Mathlib.Omega.{arith}
use borrow.Author.Tests.{ltb-true, ltb-false}
use lib.ListN.{set, drop, length-set}
use Rattle.flat.proofs.Room.{cleared_front, cleared_rest}
use Rattle.tile_layout.proofs.Laws.{times_next, stored, closed}
use Rattle.tile_layout.specs.Layout.{tabulate, padded}
use Rattle.superblocks.specs.declared.SeqSb.{SeqSb}
use Rattle.superblocks.specs.declared.Split.{Split}
use Rattle.superblocks.specs.Counts.{multiplier_of}
use Rattle.superblocks.proofs.Counts.{low_multiplier, start_fits}
use Rattle.tile_info.proofs.uniform.fill.Goals.{then-has, else-has}
use Rattle.tile_info.proofs.uniform.fill.Goals as goal

-- where tile i starts
abbrev starts-of : ℕ → Split → ℕ → ℕ
starts-of m z i = m * (z.tile.0 * i + min i z.extra.0)

-- a tile that follows ends no later than the end
ends : (z : Split) (i sbx : ℕ) → i < z.tiles.0 → z.tile.0 * z.tiles.0 + z.extra.0 ≤ 1024 → sbx ≡ z.tile.0 * i + min i z.extra.0 → sbx + z.tile.0 ≤ 1024
ends z i sbx h k e = omega (arith, mul-le-mul_left {m = i + 1} {n = z.tiles.0} z.tile.0 (omega arith), times_next z.tile.0 i)

pub loop-i-init : goal.loop-i-init
unfolding tabulate
loop-i-init c =
    (omega (arith, c.none-sbx.ensures, mul-zero c.args.split.tile.0), omega arith, cleared_front _ c.args.starts.now c.requires.0 c.clear_starts.ensures, refl)

pub loop-i-preserved : goal.loop-i-preserved
loop-i-preserved c =
    let l = c.loop-i in
    let z = c.args.split in
    let m = multiplier_of c.args.pair.frame_code c.args.pair.seq_code in
    let more : l.i < z.tiles.0 = omega (arith, c.number-tiles.ensures, c.requires.1, c.loop-i-test.true) in
    let end : l.sbx.0 + z.tile.0 ≤ 1024 = ends z l.i l.sbx.0 more c.requires.2 l.invariant.0 in
    let v : c.number.result ≡ m * l.sbx.0 = c.number.ensures ∙ rw c.in_frame.ensures (start_fits m l.sbx.0 (low_multiplier _ _) (omega arith)) in (
      elim c.if-has.branch [
        | then-has w ↦ omega (arith, ap (λ (z : SeqSb). z.0) w.sbx-is, w.plus-sbx-then-has.ensures, w.one.ensures, c.plus-sbx.ensures, times_next z.tile.0 l.i, ltb-true l.i z.extra.0 (sym c.has.ensures ∙ w.if-has.true))
        | else-has w ↦ omega (arith, ap (λ (z : SeqSb). z.0) w.sbx-is, c.plus-sbx.ensures, times_next z.tile.0 l.i, ltb-false l.i z.extra.0 (sym c.has.ensures ∙ w.if-has.false))
      ],
      omega arith,
      rw l.invariant.2 (stored _ _ l.i c.number.result (v ∙ ap (◌*◌ m) l.invariant.0) (omega (arith, c.requires.1))),
      length-set l.starts l.i _ ∙ l.invariant.3,
    )

pub returns : goal.returns
returns c =
    let l = c.loop-i in
    let a = c.args in
    let f = starts-of (multiplier_of a.pair.frame_code a.pair.seq_code) a.split in
    let n : c.number-tiles.result ≡ a.split.tiles.0 = omega (arith, c.number-tiles.ensures, c.requires.1) in
    let q : l.i ≡ a.split.tiles.0 = omega (arith, n, l.invariant.1, c.loop-i-test.false) in
    let v : c.number-2.result ≡ a.end.0 = omega (arith, c.number-2.ensures, c.requires.3) in
    let clear = c.clear_starts in
    let rest = cleared_rest clear.new.out a.starts.now c.requires.0 clear.ensures in
    ap₂ (set l.starts) (n ∙ sym q) v
    ∙ ap (λ (t : List ℕ). set t l.i a.end.0) l.invariant.2
    ∙ closed f _ l.i a.end.0 (omega (arith, c.requires.1))
    ∙ ap (λ (n : ℕ). padded (tabulate f 0 n ++ (a.end.0 ∷ [])) ++ drop 65 clear.new.out) q
    ∙ ap (λ (r : List ℕ). padded (tabulate f 0 a.split.tiles.0 ++ (a.end.0 ∷ [])) ++ r) rest
