use mathlib.Core.List.{List}
use mathlib.Core.Path.{refl, sym, ap, ◌∙◌}
use Prim.Native.Nat.{ℕ}
use mir.Facts.{to_z-of_z}
use Rattle.answers.specs.Numbers.{number_of, is_refusal}
use Rattle.answers.specs.declared.Answer.{Answer}
use Rattle.answers.proofs.Numbers.{refused_unless_0}
use Rattle.getbits.specs.Chain.{then}
use Rattle.getbits.proofs.Chain.{taken, left}
use Rattle.rectangles.proofs.Answers.{kept}
use Rattle.tile_layout.specs.Limits.{unsigned}
use Rattle.flat.specs.Layout.{buffers, layout_in}
use Rattle.capi_tiles.specs.Calls.{lent_rectangles}
use Rattle.capi_tiles.proofs.mubanlig_tile_rectangles.Goals as goal

pub returns-then-not-has_room : goal.returns-then-not-has_room
unfolding lent_rectangles
returns-then-not-has_room c =
    let lacks = sym c.has_room.ensures ∙ c.if-not-has_room.true in
    record { out_after = sym (left _ _ _ lacks); out_unchanged = λ _. refl }

pub returns : goal.returns
unfolding lent_rectangles then
returns c =
    let a = c.args in
    let given = buffers a.info.now a.col_start_sb.now a.row_start_sb.now in
    let has = sym c.has_room.ensures ∙ c.if-not-has_room.false in
    let done = rw (c.tile_info_of-t.ensures, to_z-of_z c.ranges.w, to_z-of_z c.ranges.h) at c.tile_rectangles.ensures.out_after in
    record {
      out_after = rw c.number.ensures (ap (λ (z : Answer × List ℕ). (number_of z.0, z.1)) done ∙ sym (taken _ _ _ has));
      out_unchanged = λ h. ap (λ (z : Answer × List ℕ). z.1) done
          ∙ kept (layout_in given) a.sb128 (unsigned a.w) (unsigned a.h) a.out.now (ap (λ (z : Answer × List ℕ). is_refusal z.0) (sym done) ∙ refused_unless_0 c.tile_rectangles.result (λ n. h (c.number.ensures ∙ n)));
    }
