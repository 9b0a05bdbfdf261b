use mathlib.Core.Path.{◌≡◌, sym, ◌∙◌, ap}
use Prim.Native.Nat.{ℕ}
use native.Mathlib.Omega.{arith}
use lib.Dec.{ltb}
use Rattle.tile_layout.specs.Layout.{read_sizes, starts_from}
use Rattle.tile_layout.proofs.Sized.{length_starts}
use Rattle.tile_layout.proofs.Laws.{grow}
use Rattle.tile_layout.specs.Limits.{tile_log2}
use Rattle.tile_info.proofs.nonuniform.read_tiles.Goals as goal

pub bounds-starts-z : goal.bounds-starts-z
bounds-starts-z c =
    omega (arith, c.read_sizes-z.ensures.few, c.requires.0)

pub returns : goal.returns
returns c =
    let a = c.args in
    let z = c.read_sizes-z.ensures in
    let n = c.read_sizes-z.result.tiles in
    let sizes = (read_sizes 64 a.s.now a.p a.total.0 a.limit.0).sizes in
    let v : c.number.result ≡ a.total.0 = omega (arith, c.number.ensures, c.requires.1) in
    record {
      counted = z.counted;
      log = c.tiles_log2.ensures ∙ ap (tile_log2 1) z.counted;
      left = c.below.ensures ∙ ap (λ (x : ℕ). ltb x a.total.0) z.summed;
      wides = z.wides;
      stands = z.stands;
      stored = rw (v, z.stored) (grow (starts_from 0 sizes) _ n a.total.0 (length_starts sizes 0 ∙ sym z.counted) (omega (arith, z.few)));
      few = z.few;
    }
