-- What the program write prints: request #106.
use Rattle.std.specs.Prelude.{List, [], ◌∷◌, ◌++◌, ℕ, ◌+◌, ◌/◌, eqb, length, take, replicate}
use Rattle.answers.specs.Numbers.{number_of, is_refusal}
use Rattle.getbits.specs.Chain.{pick}
use Rattle.program.specs.Input.{two_at}
use Rattle.program.specs.Output.{refused_text}
use Rattle.text.specs.Text.{word, nexts, row, line}
use Rattle.layout_writing.specs.declared.Written.{Written}
use Rattle.write.specs.Request.{write_request}

-- accepted: ok and the number of bits; then the bytes written, one for each eight bits begun
unfoldable pub bits_text : ℕ → List ℕ → List ℕ
bits_text bits bytes = line (word "ok" ++ nexts (bits ∷ [])) ++ line (row (take ((bits + 7) / 8) bytes))

-- what is printed of an answer and the buffer after it: refused, no and the number
unfoldable pub written_text : Written × List ℕ → List ℕ
written_text z = pick (is_refusal z.0.answer) (refused_text (number_of z.0.answer)) (bits_text z.0.bits z.1)

-- what is printed of 279 bytes: the last two are the size of the lent buffer, in which zeros stand
unfoldable pub request_text : List ℕ → List ℕ
request_text s = written_text (write_request s (replicate (two_at s 277) 0))

-- what is printed of an input; one of another length is 4
unfoldable pub write_text : List ℕ → List ℕ
write_text s = pick (eqb (length s) 279) (request_text s) (refused_text 4)
