use mathlib.Core.List.{List}
use mathlib.Core.Bool.{true}
use mathlib.Core.Path.{◌≡◌, refl, sym, ap, ◌∙◌}
use Prim.Native.Nat.{ℕ}
use mir.Facts.{to_z-of_z}
use Rattle.answers.specs.Numbers.{number_of, is_refusal}
use Rattle.answers.proofs.Numbers.{refused_unless_0}
use Rattle.getbits.specs.Chain.{then}
use Rattle.getbits.proofs.Chain.{taken, left}
use Rattle.flat.specs.Layout.{Buffers, buffers, has_room, layout_in}
use Rattle.tile_layout.specs.Limits.{args_of}
use Rattle.tile_layout.specs.declared.TileArgs.{TileArgs}
use Rattle.layout_writing.specs.Write.{write_tile_info}
use Rattle.layout_writing.specs.declared.Written.{Written}
use Rattle.capi.specs.Calls.{lent_write}
use Rattle.capi.proofs.mubanlig_write_tile_info.Goals as goal

-- what is written where there is room
wrote : (b : Buffers) (a : TileArgs) (out : List ℕ) → has_room b ≡ true → {z : Written × List ℕ} → z ≡ write_tile_info a (layout_in b) out
    → (number_of z.0.answer, z.0.bits, z.1) ≡ lent_write b a out
unfolding lent_write then
wrote b a out has e = ap (λ (z : Written × List ℕ). (number_of z.0.answer, z.0.bits, z.1)) e ∙ sym (taken _ _ _ has)

pub returns-then-not-has_room : goal.returns-then-not-has_room
unfolding lent_write
returns-then-not-has_room c =
    let lacks = sym c.has_room.ensures ∙ c.if-not-has_room.true in
    record {
      out_after = sym (left _ _ _ lacks);
      out_unchanged = (λ _. refl);
      bits_after = λ _. refl;
    }

pub returns : goal.returns
returns c =
    let a = c.args in
    let has = sym c.has_room.ensures ∙ c.if-not-has_room.false in
    let f = c.ranges in
    let done = rw (c.tile_info_of-t.ensures, to_z-of_z f.sbmul, to_z-of_z f.w, to_z-of_z f.h) at c.write_tile_info-r.ensures.out_after in
    let refused : (c.number.result ≡ 0 → ⊥) → is_refusal c.write_tile_info-r.result.answer ≡ true = λ h. refused_unless_0 c.write_tile_info-r.result.answer (λ n. h (c.number.ensures ∙ n)) in
    record {
      out_after = rw c.number.ensures (wrote (buffers a.info.now a.col_start_sb.now a.row_start_sb.now) (args_of a.sbmul a.sb128 a.seq_sb128 a.w a.h a.level a.tier) a.out.now has done);
      out_unchanged = (λ h. (c.write_tile_info-r.ensures.writing.unwritten (refused h)).1);
      bits_after = λ h. (c.write_tile_info-r.ensures.writing.unwritten (refused h)).0;
    }
