use mathlib.Core.Bool.{true, not}
use mathlib.Core.List.{List, [], ◌∷◌, ◌++◌}
use mathlib.Core.Path.{◌≡◌, sym, ap, ◌∙◌}
use Prim.Native.Nat.{ℕ, ◌+◌, ◌*◌, ◌≤◌}
use native.Mathlib.Omega.{arith}
use mir.Facts.{to_z-of_z}
use borrow.Author.Tests.{not-true, not-false}
use lib.ListN.{length, drop, replicate, length-append, length-replicate}
use Rattle.answers.specs.Numbers.{number_of, is_refusal}
use Rattle.answers.specs.declared.Answer.{Answer}
use Rattle.text.specs.Text.{word, line, nexts}
use Rattle.text.proofs.Puts.{puts}
use Rattle.rectangles.proofs.Answers.{accepted, refused, refuses}
use Rattle.rectangles.proofs.Places.{long}
use Rattle.rectangles.proofs.Rising.{tiles_le}
use Rattle.rectangles.specs.Rectangles.{has_rectangles, rectangle_numbers, rectangles, tile_rectangles}
use Rattle.tile_layout.specs.Limits.{unsigned}
use Rattle.rects.specs.Print.{rectangles_text}
use Rattle.rects.proofs.Tiles.{lines_of}
use Rattle.rects.proofs.put_rectangles.Goals as goal

-- the numbers before the call: zeros, with room for the rectangles of every layout
abbrev zeros : List ℕ
zeros = replicate 16384 0

roomy : 16384 ≤ length zeros
roomy = let none : ℕ = 0 in omega (arith, length-replicate 16384 none)

joined : (a b : List ℕ) {m n k : ℕ} → length a ≤ m → length b ≤ n → m + n ≤ k → length (a ++ b) ≤ k
joined a b p q r = omega (arith, length-append a b)

pub returns-then-is_refusal : goal.returns-then-is_refusal
unfolding rectangles_text
returns-then-is_refusal g c =
    let called : let a = c.args in (c.tile_rectangles-answer.result, c.tile_rectangles-answer.new.out) ≡ tile_rectangles a.t a.sb128 (unsigned a.w) (unsigned a.h) zeros = let f = c.ranges in rw (to_z-of_z f.w, to_z-of_z f.h) at c.tile_rectangles-answer.ensures.out_after in
    let asked : let a = c.args in c.is_refusal.result ≡ not (has_rectangles a.t a.sb128 (unsigned a.w) (unsigned a.h)) = let a = c.args in
    c.is_refusal.ensures ∙ ap (λ (z : Answer × List ℕ). is_refusal z.0) (called) ∙ refuses a.t a.sb128 (unsigned a.w) (unsigned a.h) zeros roomy in
    let a = c.args in
    let none = not-true _ (sym (asked) ∙ c.if-is_refusal.true) in
    let four = c.number.ensures ∙ ap (λ (z : Answer × List ℕ). number_of z.0) (called ∙ refused a.t a.sb128 (unsigned a.w) (unsigned a.h) zeros none) in
    rw (none, ← four) (record { text = c.put_refused.ensures.text; size = omega (arith, c.put_refused.ensures.size) })

pub overflow_mul-tiles : goal.overflow_mul-tiles
overflow_mul-tiles g c =
    let called : let a = c.args in (c.tile_rectangles-answer.result, c.tile_rectangles-answer.new.out) ≡ tile_rectangles a.t a.sb128 (unsigned a.w) (unsigned a.h) zeros = let f = c.ranges in rw (to_z-of_z f.w, to_z-of_z f.h) at c.tile_rectangles-answer.ensures.out_after in
    let asked : let a = c.args in c.is_refusal.result ≡ not (has_rectangles a.t a.sb128 (unsigned a.w) (unsigned a.h)) = let a = c.args in
    c.is_refusal.ensures ∙ ap (λ (z : Answer × List ℕ). is_refusal z.0) (called) ∙ refuses a.t a.sb128 (unsigned a.w) (unsigned a.h) zeros roomy in
    let has : let a = c.args in has_rectangles a.t a.sb128 (unsigned a.w) (unsigned a.h) ≡ true = not-false _ (sym (asked) ∙ c.if-is_refusal.false) in
    let a = c.args in
    omega (arith, tiles_le a.t a.sb128 (unsigned a.w) (unsigned a.h) (has))

pub put_tiles-requires : goal.put_tiles-requires
put_tiles-requires g c =
    let called : let a = c.args in (c.tile_rectangles-answer.result, c.tile_rectangles-answer.new.out) ≡ tile_rectangles a.t a.sb128 (unsigned a.w) (unsigned a.h) zeros = let f = c.ranges in rw (to_z-of_z f.w, to_z-of_z f.h) at c.tile_rectangles-answer.ensures.out_after in
    let asked : let a = c.args in c.is_refusal.result ≡ not (has_rectangles a.t a.sb128 (unsigned a.w) (unsigned a.h)) = let a = c.args in
    c.is_refusal.ensures ∙ ap (λ (z : Answer × List ℕ). is_refusal z.0) (called) ∙ refuses a.t a.sb128 (unsigned a.w) (unsigned a.h) zeros roomy in
    let has : let a = c.args in has_rectangles a.t a.sb128 (unsigned a.w) (unsigned a.h) ≡ true = not-false _ (sym (asked) ∙ c.if-is_refusal.false) in
    let written : let a = c.args in c.tile_rectangles-answer.new.out ≡ rectangles a.t a.sb128 (unsigned a.w) (unsigned a.h) ++ drop (rectangle_numbers a.t) zeros = let a = c.args in
    ap (λ (z : Answer × List ℕ). z.1) (called ∙ accepted a.t a.sb128 (unsigned a.w) (unsigned a.h) zeros roomy (has)) in
    let a = c.args in
    omega (arith, ap length (written), length-append (rectangles a.t a.sb128 (unsigned a.w) (unsigned a.h)) (drop (rectangle_numbers a.t) zeros), long a.t a.sb128 (unsigned a.w) (unsigned a.h))

pub returns : goal.returns
unfolding rectangles_text word
returns g c =
    let called : let a = c.args in (c.tile_rectangles-answer.result, c.tile_rectangles-answer.new.out) ≡ tile_rectangles a.t a.sb128 (unsigned a.w) (unsigned a.h) zeros = let f = c.ranges in rw (to_z-of_z f.w, to_z-of_z f.h) at c.tile_rectangles-answer.ensures.out_after in
    let asked : let a = c.args in c.is_refusal.result ≡ not (has_rectangles a.t a.sb128 (unsigned a.w) (unsigned a.h)) = let a = c.args in
    c.is_refusal.ensures ∙ ap (λ (z : Answer × List ℕ). is_refusal z.0) (called) ∙ refuses a.t a.sb128 (unsigned a.w) (unsigned a.h) zeros roomy in
    let has : let a = c.args in has_rectangles a.t a.sb128 (unsigned a.w) (unsigned a.h) ≡ true = not-false _ (sym (asked) ∙ c.if-is_refusal.false) in
    let written : let a = c.args in c.tile_rectangles-answer.new.out ≡ rectangles a.t a.sb128 (unsigned a.w) (unsigned a.h) ++ drop (rectangle_numbers a.t) zeros = let a = c.args in
    ap (λ (z : Answer × List ℕ). z.1) (called ∙ accepted a.t a.sb128 (unsigned a.w) (unsigned a.h) zeros roomy (has)) in
    let a = c.args in
    let few = tiles_le a.t a.sb128 (unsigned a.w) (unsigned a.h) (has) in
    rw (has, ← lines_of a.t a.sb128 (unsigned a.w) (unsigned a.h) _ _ (written))
    (record { text = grind (arith, puts); size = joined (line (word "ok" ++ nexts (a.t.cols * a.t.rows ∷ []))) _ c.push_line.ensures.size c.put_tiles.ensures.size (omega arith) })
