use native.Mathlib.Omega.{arith}
use Rattle.std.proofs.Common.{le_refl}
use borrow.Author.Tests.{eq-eqb, ne_eqb}
use Rattle.drawing.specs.Drawing.{note_text}
use Rattle.text.proofs.Chains.{also, sizes}
use Rattle.text.specs.Text.{word}
use Rattle.drawing.proofs.put_note.Goals as goal

pub returns-then-v : goal.returns-then-v
unfolding note_text word
returns-then-v g c =
    let v = c.args.v in
    let p = rw c.from.ensures at c.put_marked.ensures in
    rw (eq-eqb v.x v.y c.if-v.true) (record { text = also _ _ _ _ p.text c.push_word.ensures; size = omega (arith, sizes _ (word "</text></svg>\n") p.size (le_refl _)) })

pub returns : goal.returns
unfolding note_text word
returns g c =
    let v = c.args.v in
    let p = rw c.from.ensures at c.put_marked.ensures in
    rw (ne_eqb v.x v.y c.if-v.false) (record { text = also _ _ _ _ p.text c.push_word-2.ensures; size = omega (arith, sizes _ (word "; not to scale</text></svg>\n") p.size (le_refl _)) })
