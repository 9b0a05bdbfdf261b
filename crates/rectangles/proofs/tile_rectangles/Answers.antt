use mathlib.Core.Bool.{true}
use mathlib.Core.Path.{◌≡◌, sym, ap, ◌∙◌}
use mathlib.Core.List.{List}
use Prim.Native.Nat.{ℕ}
use Rattle.answers.specs.declared.Answer.TheVariants.{Accepted}
use native.Mathlib.Omega.{arith}
use borrow.Author.Tests.{le-leb, lt-leb}
use mir.Facts.{to_z-of_z}
use lib.ListN.{length}
use Rattle.rectangles.proofs.Rising.{tiles_le}
use Rattle.rectangles.proofs.Promises.{promised}
use Rattle.rectangles.specs.Rectangles.{has_rectangles, rectangle_numbers, tile_rectangles}
use Rattle.getbits.proofs.Chain.{taken, left}
use Rattle.tile_layout.specs.Limits.{unsigned}
use Rattle.rectangles.proofs.tile_rectangles.Goals as goal

pub returns-then-not-has_rectangles : goal.returns-then-not-has_rectangles
unfolding tile_rectangles
returns-then-not-has_rectangles c =
    let a = c.args in
    let width : c.not_below_0-width.result ≡ unsigned a.w = c.not_below_0-width.ensures ∙ ap unsigned (to_z-of_z c.ranges.w) in
    let height : c.not_below_0-height.result ≡ unsigned a.h = c.not_below_0-height.ensures ∙ ap unsigned (to_z-of_z c.ranges.h) in
    let asked : c.has_rectangles.result ≡ has_rectangles a.t a.sb128 (unsigned a.w) (unsigned a.h) = rw (← width, ← height) c.has_rectangles.ensures in
    let w = promised a.t a.sb128 (unsigned a.w) (unsigned a.h) a.out.now (sym (left _ _ _ (sym asked ∙ c.if-not-has_rectangles.true))) in
    record { out_after = w.0; tiles_written = w.1 }

pub overflow_mul_t : goal.overflow_mul_t
overflow_mul_t c = omega (arith, tiles_le c.args.t c.args.sb128 _ _ (sym c.has_rectangles.ensures ∙ c.if-not-has_rectangles.false))

pub overflow_mul_t_2 : goal.overflow_mul_t_2
overflow_mul_t_2 c = omega (arith, tiles_le c.args.t c.args.sb128 _ _ (sym c.has_rectangles.ensures ∙ c.if-not-has_rectangles.false))

pub returns-then-out-t : goal.returns-then-out-t
unfolding tile_rectangles
returns-then-out-t c =
    let a = c.args in
    let width : c.not_below_0-width.result ≡ unsigned a.w = c.not_below_0-width.ensures ∙ ap unsigned (to_z-of_z c.ranges.w) in
    let height : c.not_below_0-height.result ≡ unsigned a.h = c.not_below_0-height.ensures ∙ ap unsigned (to_z-of_z c.ranges.h) in
    let good : has_rectangles a.t a.sb128 (unsigned a.w) (unsigned a.h) ≡ true = sym (rw (← width, ← height) c.has_rectangles.ensures) ∙ c.if-not-has_rectangles.false in
    let w = promised a.t a.sb128 (unsigned a.w) (unsigned a.h) a.out.now
    (sym (taken _ _ _ good ∙ left _ _ _ (lt-leb (rectangle_numbers a.t) (length a.out.now) c.if-out-t.true))) in
    record { out_after = w.0; tiles_written = w.1 }

pub put_rows_requires : goal.put_rows_requires
put_rows_requires c = (sym c.has_rectangles.ensures ∙ c.if-not-has_rectangles.false, c.if-out-t.false)

pub returns : goal.returns
unfolding tile_rectangles
returns c =
    let a = c.args in
    let width : c.not_below_0-width.result ≡ unsigned a.w = c.not_below_0-width.ensures ∙ ap unsigned (to_z-of_z c.ranges.w) in
    let height : c.not_below_0-height.result ≡ unsigned a.h = c.not_below_0-height.ensures ∙ ap unsigned (to_z-of_z c.ranges.h) in
    let good : has_rectangles a.t a.sb128 (unsigned a.w) (unsigned a.h) ≡ true = sym (rw (← width, ← height) c.has_rectangles.ensures) ∙ c.if-not-has_rectangles.false in
    let w = promised a.t a.sb128 (unsigned a.w) (unsigned a.h) a.out.now
    (ap (λ (x : List ℕ). (Accepted, x)) (rw (width, height) at c.put_rows.ensures)
    ∙ sym (taken _ _ _ good ∙ taken _ _ _ (le-leb (rectangle_numbers a.t) (length a.out.now) c.if-out-t.false))) in
    record { out_after = w.0; tiles_written = w.1 }
