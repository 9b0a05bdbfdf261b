use mathlib.Core.List.{List}
use mathlib.Core.Path.{◌≡◌, refl, ◌∙◌, ap}
use Prim.Native.Nat.{ℕ}
use native.Mathlib.Omega.{arith}
use Rattle.getbits.specs.Bits.{read_bits, get_bit, get_flag}
use Rattle.getbits.specs.declared.Read.{Read}
use Rattle.getbits.specs.declared.Place.{Place}
use Rattle.getbits.proofs.Callers.{as_read}
use Rattle.flat.specs.Layout.{buffers, put_layout}
use Rattle.flat.proofs.Room.{room, put_over}
use Rattle.tile_info.proofs.Into.{in_front}
use Rattle.tile_info.proofs.Rules.{uniform_made}
use Rattle.tile_layout.proofs.Area.{min_cols, max_cols, min_rows, max_rows}
use Rattle.tile_layout.proofs.Logs.{log_read}
use Rattle.tile_layout.proofs.Domain.{domain}
use Rattle.tile_layout.specs.Layout.{padded, uniform_edges}
use Rattle.tile_layout.specs.declared.TileRead.{TileRead}
use Rattle.tile_info.proofs.uniform_layout.Goals as goal

-- behind the flag
abbrev flag : List ℕ → Place → Place
flag s p = (read_bits s p 1).next

flag_is : (s : List ℕ) (p : Place) → flag s p ≡ (get_flag s p).next
unfolding get_flag get_bit
flag_is s p = refl

pub read_log2-c-requires : goal.read_log2-c-requires
read_log2-c-requires c =
    let d = domain c.args.a c.requires.in_the_domain in
    let k = c.requires.known in
    (omega (arith, k.min_cols, min_cols _ d), omega (arith, k.max_cols, max_cols _ d), omega arith)

pub read_log2-r-requires : goal.read_log2-r-requires
read_log2-r-requires c =
    let a = c.args in
    let s = a.s.now in
    let k = c.requires.known in
    let d = domain a.a c.requires.in_the_domain in
    let across = (c.read_log2-c.ensures.reads s a.p c.requires.word_value).0 in
    let l = log_read s (flag s a.p) a.k.min_log2_cols a.k.max_log2_cols in (
      omega (arith, c.saturating_sub-min_log2_rows.ensures, k.min_tiles, k.min_cols, across, l, min_rows a.a d c.read_log2-c.result.log2 (omega (arith, k.min_cols, across, l))),
      omega (arith, k.max_rows, max_rows _ d),
      omega (arith, c.read_log2-c.ensures.low.1),
    )

pub uniform_starts-n_cols-requires : goal.uniform_starts-n_cols-requires
uniform_starts-n_cols-requires c =
    let a = c.args in
    let d = domain a.a c.requires.in_the_domain in
    let b = buffers a.info.now a.cols.now a.rows.now in
    record {
      in_the_domain = c.requires.in_the_domain;
      coded = c.requires.known.coded;
      in_bounds = ((room b c.requires.room).cols, d.some_width, d.most_width, c.requires.known.across, c.read_log2-c.ensures.low.0);
    }

pub uniform_starts-n_rows-requires : goal.uniform_starts-n_rows-requires
uniform_starts-n_rows-requires c =
    let a = c.args in
    let d = domain a.a c.requires.in_the_domain in
    let b = buffers a.info.now a.cols.now a.rows.now in
    record {
      in_the_domain = c.requires.in_the_domain;
      coded = c.requires.known.coded;
      in_bounds = ((room b c.requires.room).rows, d.some_height, d.most_height, c.requires.known.down, c.read_log2-r.ensures.low.0);
    }

pub returns : goal.returns
returns c =
    let s = c.args.s.now in
    let p = c.args.p in
    let a = c.args.a in
    let q = c.requires in
    let b = buffers c.args.info.now c.args.cols.now c.args.rows.now in
    let room = room b q.room in
    let z = c.read_log2-c.result in
    let y = c.read_log2-r.result in
    let across = c.read_log2-c.ensures.reads s p q.word_value in
    let down = c.read_log2-r.ensures.reads s p q.word_value in
    let made =
    uniform_made s (flag s p) q.known z.log2 y.log2 (read_bits s p z.used).next _ _ _ _ _ _
    across.0 across.1 c.saturating_sub-min_log2_rows.ensures down.0 down.1
    c.uniform_starts-n_cols.ensures.0 refl c.uniform_starts-n_rows.ensures.0 refl in
    let next = ap (λ (n : Read ℕ). n.next) (as_read s p y.used (omega (arith, c.read_log2-c.ensures.low.1, c.read_log2-r.ensures.low.1)) c.read_bits-behind.ensures) in
    rw (← flag_is s p) (
      next ∙ ap (λ (z : TileRead). z.next) made,
      put_over _ b q.room c.put_layout_bytes.ensures
          (in_front (padded (uniform_edges a a.width z.log2)) c.args.cols.now room.cols c.uniform_starts-n_cols.ensures.1)
          (in_front (padded (uniform_edges a a.height y.log2)) c.args.rows.now room.rows c.uniform_starts-n_rows.ensures.1)
          ∙ ap (λ (z : TileRead). put_layout z.info b) made,
    )
