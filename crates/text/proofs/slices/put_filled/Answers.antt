use Rattle.std.proofs.Common.{arith, ◌+◌, drop}
use Rattle.std.proofs.lemmas.Grind.{common_steps}
use lib.ListN.{length-append}
use mir.Syntax.{w64}
use mir.Facts.{to_z-of_z}
use Rattle.text.specs.Put.{behind}
use Rattle.text.specs.Text.{filled}
use Rattle.text.proofs.Placed.{after, after_place, kept}
use Rattle.text.proofs.Filled.{filled_mark, filled_other, filled_end, filled_past}
use Rattle.text.proofs.slices.put_filled.Goals as goal
use Rattle.text.proofs.slices.put_filled.Goals.{then-c-eq35, else-c-eq35}

pub loop-c-preserved : goal.loop-c-preserved
loop-c-preserved c =
    let t = c.args.template.now in
    let xs = c.args.xs.now in
    let i = c.loop-c.c-index in
    let k = c.loop-c.next in
    elim c.if-c-eq35.branch [
      | then-c-eq35 w ↦ let p = rw (to_z-of_z {w = w64} (record { sfits = w.number_at.type_inv })) at w.put_signed-end.ensures in
          let e = filled_mark t xs i k c.loop-c-test.true w.if-c-eq35.true in
          let past = filled_past (drop (i + 1) t) xs c.if-c-eq35.next (k + 1) in
          let text = after p (filled (drop (i + 1) t) xs (k + 1)) in
          let place = after_place p (filled (drop (i + 1) t) xs (k + 1)) in
          let length = kept p in
          grind (arith, length-append)
      | else-c-eq35 w ↦ let e = filled_other t xs i k c.loop-c-test.true w.if-c-eq35.false in
          let p = w.put_byte-end.ensures in
          let text = after p (filled (drop (i + 1) t) xs k) in
          let place = after_place p (filled (drop (i + 1) t) xs k) in
          let length = kept p in
          grind (arith, length-append)
    ]

pub returns : goal.returns
unfolding behind
returns c = let e = filled_end c.args.template.now c.args.xs.now c.loop-c.c-index c.loop-c.next c.loop-c-test.false in grind (arith, common_steps)
