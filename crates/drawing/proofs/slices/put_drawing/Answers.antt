use mathlib.Core.Bool.{true, false, not}
use mathlib.Core.List.{List, ◌++◌}
use mathlib.Core.Path.{◌≡◌, sym, ap, ◌∙◌}
use Prim.Native.Nat.{ℕ, ◌*◌, ◌≤◌}
use native.Mathlib.Nat.{mul_comm}
use native.Mathlib.Omega.{arith}
use borrow.Author.Tests.{not-true, not-false}
use mir.Facts.{to_z-of_z}
use lib.ListN.{length, drop, replicate, length-append, length-replicate}
use Rattle.answers.specs.Numbers.{is_refusal}
use Rattle.answers.specs.declared.Answer.{Answer}
use Rattle.drawing.proofs.Pictures.{same_picture, rects_of}
use Rattle.drawing.specs.Drawing.{drawing_text}
use Rattle.rectangles.proofs.Answers.{accepted, refuses}
use Rattle.rectangles.proofs.Places.{long}
use Rattle.rectangles.proofs.Rising.{described, frame_sizes}
use Rattle.rectangles.specs.Rectangles.{has_rectangles, rectangle_numbers, rectangles, tile_rectangles}
use Rattle.text.proofs.Placed.{within}
use Rattle.tile_layout.specs.Limits.{unsigned}
use Rattle.tile_layout.specs.declared.TileInfo.{TileInfo}
use Rattle.drawing.proofs.slices.put_drawing.Goals as goal

-- the numbers before the call: zeros, with room for the rectangles of every layout
abbrev zeros : List ℕ
zeros = replicate 16384 0

roomy : 16384 ≤ length zeros
roomy = let none : ℕ = 0 in omega (arith, length-replicate 16384 none)

-- what is known of the answer and of the numbers after the call
module _ (t : TileInfo) (code w h : ℕ) (answer : Answer) (numbers : List ℕ) (called : (answer, numbers) ≡ tile_rectangles t code w h zeros) where
  asked : is_refusal answer ≡ not (has_rectangles t code w h)
  asked = ap (λ (z : Answer × List ℕ). is_refusal z.0) called ∙ refuses t code w h zeros roomy

  none : is_refusal answer ≡ true → has_rectangles t code w h ≡ false
  none r = not-true (has_rectangles t code w h) (sym asked ∙ r)

  has : is_refusal answer ≡ false → has_rectangles t code w h ≡ true
  has r = not-false _ (sym asked ∙ r)

  written : is_refusal answer ≡ false → numbers ≡ rectangles t code w h ++ drop (rectangle_numbers t) zeros
  written r = ap (λ (z : Answer × List ℕ). z.1) (called ∙ accepted t code w h zeros roomy (has r))

  room : is_refusal answer ≡ false → 4 * (t.rows * t.cols) ≤ length numbers
  room r = omega (arith, ap length (written r), length-append (rectangles t code w h) (drop (rectangle_numbers t) zeros), long t code w h, mul_comm t.cols t.rows)

pub returns-then-is_refusal : goal.returns-then-is_refusal
unfolding drawing_text
returns-then-is_refusal c =
    let a = c.args in
    let called = rw (to_z-of_z c.ranges.w, to_z-of_z c.ranges.h) at c.tile_rectangles-answer.ensures.out_after in
    rw (none a.t a.sb128 (unsigned a.w) (unsigned a.h) _ _ called (sym c.is_refusal.ensures ∙ c.if-is_refusal.true)) (within (omega arith) c.put_refusal.ensures)

pub view_of-v-requires : goal.view_of-v-requires
view_of-v-requires c =
    let a = c.args in
    let called = rw (to_z-of_z c.ranges.w, to_z-of_z c.ranges.h) at c.tile_rectangles-answer.ensures.out_after in
    let sizes = frame_sizes a.t a.sb128 (unsigned a.w) (unsigned a.h) (has _ _ _ _ _ _ called (sym c.is_refusal.ensures ∙ c.if-is_refusal.false)) in
    (rw (c.not_below_0.ensures, to_z-of_z c.ranges.w) sizes.0, rw (c.not_below_0-2.ensures, to_z-of_z c.ranges.h) sizes.1)

pub side_of-requires : goal.side_of-requires
side_of-requires c =
    let a = c.args in
    let called = rw (to_z-of_z c.ranges.w, to_z-of_z c.ranges.h) at c.tile_rectangles-answer.ensures.out_after in
    (described a.t a.sb128 (unsigned a.w) (unsigned a.h) (has _ _ _ _ _ _ called (sym c.is_refusal.ensures ∙ c.if-is_refusal.false))).small_code

pub put_picture-requires : goal.put_picture-requires
put_picture-requires c =
    let a = c.args in
    let called = rw (to_z-of_z c.ranges.w, to_z-of_z c.ranges.h) at c.tile_rectangles-answer.ensures.out_after in
    let accepted = sym c.is_refusal.ensures ∙ c.if-is_refusal.false in
    let d = described a.t a.sb128 (unsigned a.w) (unsigned a.h) (has _ _ _ _ _ _ called accepted) in
    (c.view_of-v.ensures.1, c.side_of.ensures.1, d.some_cols, d.most_cols, d.some_rows, d.most_rows, room a.t a.sb128 (unsigned a.w) (unsigned a.h) _ _ called accepted)

pub returns : goal.returns
unfolding drawing_text
returns c =
    let a = c.args in
    let t = a.t in
    let w = unsigned a.w in
    let h = unsigned a.h in
    let called = rw (to_z-of_z c.ranges.w, to_z-of_z c.ranges.h) at c.tile_rectangles-answer.ensures.out_after in
    let accepted = sym c.is_refusal.ensures ∙ c.if-is_refusal.false in
    let some = has t a.sb128 w h _ _ called accepted in
    let d = described t a.sb128 w h some in
    rw (some, ← same_picture _ _ _ t _ _ d.some_cols d.some_rows (rects_of t a.sb128 w h _ _ (written t a.sb128 w h _ _ called accepted)))
    (rw (c.view_of-v.ensures.0, c.not_below_0.ensures, c.not_below_0-2.ensures, to_z-of_z c.ranges.w, to_z-of_z c.ranges.h, c.side_of.ensures.0) at c.put_picture.ensures)
