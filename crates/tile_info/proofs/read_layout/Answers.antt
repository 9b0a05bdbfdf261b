use mathlib.Core.Bool.{true, false}
use mathlib.Core.List.{List}
use mathlib.Core.Path.{◌≡◌, refl, sym, ◌∙◌, ap}
use Prim.Native.Nat.{ℕ}
use Rattle.answers.specs.declared.Answer.TheVariants.{Accepted}
use Rattle.getbits.specs.Bits.{get_bit, get_flag}
use Rattle.getbits.specs.Chain.{then}
use Rattle.getbits.specs.declared.Read.{Read}
use Rattle.getbits.specs.declared.Place.{Place}
use Rattle.getbits.proofs.Chain.{through, taken, left}
use Rattle.lent.proofs.Calls.{pair}
use Rattle.flat.specs.Layout.{Buffers, buffers, put_layout, layout_in}
use Rattle.tile_layout.specs.Layout.{uniform_layout, non_uniform_layout, parse_tile_info}
use Rattle.tile_layout.specs.Limits.{in_domain}
use Rattle.tile_layout.specs.declared.TileArgs.{TileArgs}
use Rattle.tile_layout.specs.declared.TileInfo.{TileInfo}
use Rattle.tile_layout.specs.declared.TileRead.{TileRead}
use Rattle.tile_info.specs.Into.{read_into}
use Rattle.tile_info.proofs.Word.{flag_set, flag_unset}
use Rattle.tile_info.proofs.read_layout.Goals as goal

module _ (s : List ℕ) (p : Place) (old : TileInfo) (a : TileArgs) (d : in_domain a ≡ true) where
  -- by the flag
  uniform : (get_flag s p).value ≡ true → parse_tile_info s p old a ≡ uniform_layout s (get_flag s p).next a
  unfolding parse_tile_info
  uniform e = taken _ _ _ d ∙ through _ _ refl ∙ taken _ _ _ e

  non_uniform : (get_flag s p).value ≡ false → parse_tile_info s p old a ≡ non_uniform_layout s (get_flag s p).next old a
  unfolding parse_tile_info
  non_uniform e = taken _ _ _ d ∙ through _ _ refl ∙ left _ _ _ e

-- a uniform layout is accepted
accepted : (s : List ℕ) (q : Place) (a : TileArgs) (b : Buffers) {n : Place} {after : Buffers} → (n ≡ (uniform_layout s q a).next) × (after ≡ put_layout (uniform_layout s q a).info b)
    → (record { answer = Accepted; next = n }, after) ≡ read_into (uniform_layout s q a) b
unfolding uniform_layout then
accepted s q a b e = pair (ap (λ (n : Place). record { answer = Accepted; next = n }) e.0) e.1

behind : (s : List ℕ) (p : Place) (b : Read ℕ) → b ≡ get_bit s p → b.next ≡ (get_flag s p).next
unfolding get_flag
behind s p b e = ap (λ (n : Read ℕ). n.next) e

pub uniform_layout-next-requires : goal.uniform_layout-next-requires
uniform_layout-next-requires c =
    record { in_the_domain = c.requires.in_the_domain; known = c.frame_limits-k.ensures; word_value = c.look_ahead-word.ensures; room = c.requires.room }

pub returns-then-word-ge2147483648 : goal.returns-then-word-ge2147483648
returns-then-word-ge2147483648 c =
    let a = c.args in
    let b = buffers a.info.now a.cols.now a.rows.now in
    let flag = flag_set a.s.now a.p c.look_ahead-word.result c.look_ahead-word.ensures c.if-word-ge2147483648.true in
    accepted a.s.now _ a.a b c.uniform_layout-next.ensures
    ∙ ap (λ (z : TileRead). read_into z b) (sym (uniform a.s.now a.p (layout_in b) a.a c.requires.in_the_domain flag))

pub nonuniform_layout-requires : goal.nonuniform_layout-requires
nonuniform_layout-requires c =
    record { in_the_domain = c.requires.in_the_domain; known = c.frame_limits-k.ensures; room = c.requires.room }

pub returns : goal.returns
returns c =
    let a = c.args in
    let b = buffers a.info.now a.cols.now a.rows.now in
    let flag = flag_unset a.s.now a.p c.look_ahead-word.result c.look_ahead-word.ensures c.if-word-ge2147483648.false in
    c.nonuniform_layout.ensures
    ∙ ap (λ (q : Place). read_into (non_uniform_layout a.s.now q (layout_in b) a.a) b) (behind a.s.now a.p c.get_bit-uniform.result c.get_bit-uniform.ensures)
    ∙ ap (λ (z : TileRead). read_into z b) (sym (non_uniform a.s.now a.p (layout_in b) a.a c.requires.in_the_domain flag))
