use mathlib.Core.Bool.{true}
use mathlib.Core.Path.{◌≡◌, ◌∙◌, ap₂}
use Prim.Native.Nat.{ℕ, ◌*◌, ◌%◌, ◌≤◌, max, min, ◌/◌, ◌+◌}
use native.Mathlib.Nat.{le-mul_of_pos_right}
use native.Mathlib.Omega.{arith}
use lib.Pow.{pow_pos}
use Rattle.tile_layout.specs.declared.TileArgs.{TileArgs}
use Rattle.tile_layout.proofs.Even.{few_tiles, holds}
use Rattle.tile_layout.proofs.Domain.{Along, domain, along}
use Rattle.tile_layout.specs.Layout.{full_count, total_count, base, count, larger, start_at}
use Rattle.tile_layout.specs.Limits.{in_domain, superblocks}
use Rattle.superblocks.specs.declared.Pair.{Pair}
use Rattle.superblocks.specs.declared.Split.{Split}
use Rattle.superblocks.specs.Counts.{size_of}
use Rattle.tile_info.specs.Inner.{Coded}
use Rattle.tile_info.proofs.Coded.{seq_code, multiplied}
use Rattle.tile_info.proofs.uniform.uniform_starts.Goals as goal

-- the split of n samples, full superblocks f and all of them t
module _ (a : TileArgs) (pair : Pair) (n log2 : ℕ) (d : in_domain a ≡ true) (c : Coded a pair) (some : 1 ≤ n) (most : n ≤ 65536) (low : log2 ≤ 6) where
  abbrev F : ℕ
  F = full_count a n

  abbrev T : ℕ
  T = total_count a n

  al : Along a.frame_code a.multiplier (superblocks n a.frame_code) F T
  al = along a (domain a d) n some most

  few : count F T log2 ≤ 64
  few = few_tiles F T log2 T al.some_full al.full_le al.le_full (omega (arith, al.some_full, al.full_le)) (le-mul_of_pos_right T (pow_pos log2)) low

  split : (r : Split) (f t : ℕ) → f ≡ max 1 ((n + 7) / size_of pair.seq_code) → t ≡ superblocks n (min pair.seq_code 2)
      → (r.tile.0 ≡ base f (log2 % 32)) × (r.tiles.0 ≡ count f t (log2 % 32)) × (r.extra.0 ≡ larger f t (log2 % 32))
      → (r.tile.0 ≡ base F log2) × (r.tiles.0 ≡ count F T log2) × (r.extra.0 ≡ larger F T log2)
  unfolding full_count
  split r f t ef et e =
      let code = seq_code d c in
      let l : log2 % 32 ≡ log2 = omega arith in
      let f' = rw code at ef in
      let t' = rw code at et in
      rw (l, f', t') at e

pub fill-requires : goal.fill-requires
fill-requires c =
    let a = c.args in
    let q = c.requires in
    let b = q.in_bounds in
    let al = al a.a a.pair a.n a.log2 q.in_the_domain q.coded b.1 b.2 b.4 in
    let few = few a.a a.pair a.n a.log2 q.in_the_domain q.coded b.1 b.2 b.4 in
    let e = split a.a a.pair a.n a.log2 q.in_the_domain q.coded b.1 b.2 b.4 c.even_split-split.result _ _ c.full_count-fsb.ensures c.seq_count-ssb.ensures c.even_split-split.ensures in
    let f = full_count a.a a.n in
    let t = total_count a.a a.n in (
      b.0,
      omega (arith, e.1, few),
      omega (arith, e.2, holds f t a.log2 al.full_le, al.most_seq, ap₂ ◌*◌ e.0 e.1),
      omega (arith, b.3, al.most_all),
    )

pub returns : goal.returns
unfolding start_at
returns c =
    let a = c.args in
    let q = c.requires in
    let b = q.in_bounds in
    let few = few a.a a.pair a.n a.log2 q.in_the_domain q.coded b.1 b.2 b.4 in
    let e = split a.a a.pair a.n a.log2 q.in_the_domain q.coded b.1 b.2 b.4 c.even_split-split.result _ _ c.full_count-fsb.ensures c.seq_count-ssb.ensures c.even_split-split.ensures in
    (omega (arith, c.number.ensures, e.1, few), c.fill.ensures ∙ simp (e.0, e.1, e.2, b.3, multiplied q.in_the_domain q.coded))
