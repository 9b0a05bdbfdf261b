use native.Mathlib.Omega.{arith}
use Rattle.drawing.specs.Refusal.{meaning_text}
use Rattle.text.specs.Text.{word}
use Rattle.drawing.proofs.put_meaning.Goals as goal

pub returns-in-1 : goal.returns-in-1
unfolding meaning_text word
returns-in-1 g c = rw c.in-1.is (record { text = c.push_word.ensures; size = omega arith })

pub returns-in-2 : goal.returns-in-2
unfolding meaning_text word
returns-in-2 g c = rw c.in-2.is (record { text = c.push_word-in-2.ensures; size = omega arith })

pub returns-in-4 : goal.returns-in-4
unfolding meaning_text word
returns-in-4 g c = rw c.in-4.is (record { text = c.push_word-in-4.ensures; size = omega arith })
