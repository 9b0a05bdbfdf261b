use Rattle.std.proofs.Common.{Bool}
use mathlib.Core.Bool.{true, false}
use mathlib.Core.List.{List}
use mathlib.Core.Path.{◌≡◌, refl, sym, ap, ◌∙◌}
use Prim.Native.Nat.{ℕ}
use borrow.Author.Rules.{rules}
use borrow.Author.Tests.{not-true, not-false}
use mir.Syntax.{w32}
use mir.Val.{to_z, of_z}
use Rattle.answers.specs.declared.Answer.TheVariants.{Accepted}
use Rattle.getbits.specs.Bits.{get_flag, flag_if}
use Rattle.getbits.specs.Chain.{pick}
use Rattle.getbits.specs.declared.Read.{Read}
use Rattle.getbits.specs.declared.Place.{Place}
use Rattle.getbits.proofs.Chain.{through, taken}
use Rattle.seq_fields.specs.declared.AdaptiveBoolean.TheVariants.{Off, On, Adaptive}
use Rattle.seq_picture.specs.declared.FrameSize.{FrameSize}
use Rattle.seq_picture.specs.declared.Level.{Level}
use Rattle.flat.specs.Layout.{Buffers, buffers, has_room, put_layout, layout_in}
use Rattle.flat.proofs.Room.{comes_back}
use Rattle.tile_layout.specs.Layout.{parse_tile_info}
use Rattle.tile_layout.specs.Limits.{no_tile_info}
use Rattle.tile_layout.specs.declared.TileArgs.{TileArgs}
use Rattle.tile_layout.specs.declared.TileInfo.{TileInfo}
use Rattle.tile_info.specs.Into.{read_into, parse_tile_info_into}
use Rattle.seq_hdr.specs.Tiling.{tiling_args, tile_info_if, read_tiling}
use Rattle.seq_hdr.proofs.Into.{tiling-into}
use Rattle.seq_hdr.proofs.read_tiling.Goals as goal

-- a tiling without a layout, and one with the layout z
module _ (sb128 : ℕ) (size : FrameSize) (level : Level) (s : List ℕ) (p : Place) {present : Read Bool} (e : present ≡ get_flag s p) where
  without : present.value ≡ false → read_tiling sb128 size level s p ≡ record { answer = Accepted; value = record { present = Off; t = no_tile_info }; next = present.next }
  unfolding read_tiling flag_if tile_info_if
  without v = through _ _ e ∙ rw v (through _ _ refl ∙ through _ _ refl)

  with_layout_lem : {adaptive : Read Bool} → present.value ≡ true → adaptive ≡ get_flag s present.next → let z = parse_tile_info s adaptive.next no_tile_info (tiling_args sb128 size level) in
      read_tiling sb128 size level s p ≡ record { answer = z.answer; value = record { present = pick adaptive.value Adaptive On; t = z.info }; next = z.next }
  unfolding read_tiling flag_if tile_info_if
  with_layout_lem v f = through _ _ e ∙ rw v (through _ _ f ∙ through _ _ refl)

-- a layout that is read over the zero layout, which stands in the buffers
over_none : (s : List ℕ) (p : Place) (args : TileArgs) (b : Buffers) → has_room b ≡ true → put_layout no_tile_info b ≡ b
    → parse_tile_info_into s p b args ≡ read_into (parse_tile_info s p no_tile_info args) b
unfolding parse_tile_info_into
over_none s p args b h z =
    taken _ _ _ h ∙ ap (λ (old : TileInfo). read_into (parse_tile_info s p old args) b) (sym (ap layout_in z) ∙ comes_back no_tile_info b refl refl h)

pub returns-then-not-present : goal.returns-then-not-present
returns-then-not-present c =
    let a = c.args in
    let e = without a.sb128 a.size a.level a.s.now a.p c.get_flag-present.ensures (not-true _ c.if-not-present.true) in
    record { is = rw e refl; put = rw e (sym c.requires.zero_layout); behind = refl }

pub returns : goal.returns
returns c =
    let a = c.args in
    let q = c.get_flag-adaptive.result.next in
    let args = tiling_args a.sb128 a.size a.level in
    let b : Buffers = buffers a.info.now a.cols.now a.rows.now in
    -- the lengths, read back from their bits
    let width : to_z w32 (of_z w32 a.size.max_width) ≡ a.size.max_width = search rules in
    let height : to_z w32 (of_z w32 a.size.max_height) ≡ a.size.max_height = search rules in
    tiling-into (parse_tile_info a.s.now q no_tile_info args) b c.requires.room
    ((rw (width, height) at c.parse_tile_info_into-r.ensures.outcome) ∙ over_none a.s.now q args b c.requires.room c.requires.zero_layout)
    c.parse_tile_info_into-r.auto.cols c.parse_tile_info_into-r.auto.rows c.adaptive_or-present.ensures
    (with_layout_lem a.sb128 a.size a.level a.s.now a.p c.get_flag-present.ensures (not-false _ c.if-not-present.false) c.get_flag-adaptive.ensures)
