use native.Mathlib.Omega.{arith}
use Rattle.drawing.specs.Refusal.{refusal_text}
use Rattle.text.proofs.Placed.{also, printed, within}
use Rattle.text.specs.Text.{word}
use Rattle.drawing.proofs.slices.put_refusal.Goals as goal

pub returns : goal.returns
unfolding refusal_text word
returns c =
    let title = also (also (also c.put_word-first.ensures c.put_word-second.ensures) c.put_word-third.ensures) c.put_word-fourth.ensures in
    let meaning = printed c.new-meaning.ensures c.put_meaning.ensures.text c.put_meaning.ensures.size c.as_slice.ensures c.put_word-sixth.ensures in
    within (omega arith) (also (also (also title (rw c.from.ensures at c.put_marked-fifth.ensures)) meaning) c.put_word.ensures)
