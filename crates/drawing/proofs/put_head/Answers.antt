use native.Mathlib.Omega.{arith}
use Rattle.std.proofs.Common.{le_refl}
use Rattle.drawing.proofs.Products.{drawn}
use Rattle.drawing.specs.Drawing.{head_text}
use Rattle.text.proofs.Chains.{also, sizes}
use Rattle.text.specs.Text.{word}
use Rattle.drawing.proofs.put_head.Goals as goal

pub overflow_mul-v : goal.overflow_mul-v
overflow_mul-v g c = omega (arith, drawn c.args.v.y c.from.result c.requires.0.down (omega arith))

pub overflow_add-height : goal.overflow_add-height
overflow_add-height g c = omega (arith, drawn c.args.v.y c.from.result c.requires.0.down (omega arith), c.max-2.ensures, c.requires.0.unit, c.requires.2)

pub returns : goal.returns
unfolding head_text word
returns g c =
    let a = c.args.title.now in
    let p = c.put_marked.ensures in
    let q = c.put_marked-2.ensures in
    rw (← c.from.ensures, ← c.max.ensures, ← c.max-2.ensures)
    (record {
      text = also _ _ _ _ (also _ _ _ _ (also _ _ _ _ p.text c.push_word.ensures) q.text) c.push_word-2.ensures;
      size = omega (arith, sizes _ a (sizes _ _ (sizes _ a p.size (le_refl _)) q.size) (le_refl _));
    })
