use mathlib.Core.List.{List, [], ◌∷◌, ◌++◌}
use mathlib.Core.Path.{◌≡◌, sym, ap, ◌∙◌}
use Prim.Native.Nat.{ℕ, ◌+◌}
use native.Mathlib.Omega.{arith}
use lib.ListN.{length, drop, get_or, length-append}
use lib.Seq.{sets}
use Rattle.drawing.proofs.Marked.{number, longer}
use Rattle.drawing.specs.Template.{integers}
use Rattle.text.proofs.Filled.{filled_mark, filled_other, filled_end}
use Rattle.text.proofs.Placed.{after, after_place, printed}
use Rattle.text.specs.Put.{behind}
use Rattle.text.specs.Text.{decimal, filled}
use Rattle.drawing.proofs.slices.put_marked.Goals as goal
use Rattle.drawing.proofs.slices.put_marked.Goals.{then-c-eq35, else-c-eq35}

pub loop-c-preserved : goal.loop-c-preserved
loop-c-preserved c = let t = c.args.template.now in
    let xs = c.args.xs.now in
    let loop = c.loop-c in
    let i = loop.c-index in
    let known = loop.invariant in
    elim c.if-c-eq35.branch [
      | then-c-eq35 w ↦ let d = decimal (get_or xs loop.k 0) in
          let rest = filled (drop (i + 1) t) (integers xs) (loop.k + 1) in
          let left : filled (drop i t) (integers xs) loop.k ≡ d ++ rest = filled_mark t (integers xs) i loop.k c.loop-c-test.true w.if-c-eq35.true ∙ ap (λ (z : List ℕ). z ++ rest) (number xs loop.k) in
          let q = w.put_number_at.ensures in
          let more = longer loop.k (length xs) in
          let p = printed w.new-number.ensures q.text (omega (arith, q.size, more)) w.as_slice.ensures w.put_word-next.ensures in
          rw (w.out-is, w.next-is, w.k-is) (record {
            in_range = omega (arith, known.in_range);
            text = after p rest ∙ ap (sets loop.out loop.next) (sym left) ∙ known.text;
            place = after_place p rest ∙ ap (λ (z : List ℕ). behind loop.next (length z) (length loop.out)) (sym left) ∙ known.place;
            size = omega (arith, known.size, ap length left, length-append d rest, q.size, more);
          })
      | else-c-eq35 w ↦ let b = get_or t i 0 ∷ [] in
          let rest = filled (drop (i + 1) t) (integers xs) loop.k in
          let left : filled (drop i t) (integers xs) loop.k ≡ b ++ rest = filled_other t (integers xs) i loop.k c.loop-c-test.true w.if-c-eq35.false in
          let p = w.put_byte-next.ensures in
          rw (w.out-is, w.next-is, w.k-is) (record {
            in_range = omega (arith, known.in_range);
            text = after p rest ∙ ap (sets loop.out loop.next) (sym left) ∙ known.text;
            place = after_place p rest ∙ ap (λ (z : List ℕ). behind loop.next (length z) (length loop.out)) (sym left) ∙ known.place;
            size = omega (arith, known.size, ap length left, length-append b rest);
          })
    ]

pub returns : goal.returns
unfolding behind
returns c =
    let t = c.args.template.now in
    let known = c.loop-c.invariant in
    let none = filled_end t (integers c.args.xs.now) c.loop-c.c-index c.loop-c.k c.loop-c-test.false in
    record {
      text = rw none at known.text;
      place = omega (arith, rw none at known.place);
      size = omega (arith, ap length none, known.size);
    }
