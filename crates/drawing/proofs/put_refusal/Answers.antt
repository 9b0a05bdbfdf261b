use mathlib.Core.List.{List, [], ◌∷◌, ◌++◌}
use mathlib.Core.Path.{◌≡◌}
use Prim.Native.Nat.{ℕ, ◌+◌}
use native.Mathlib.Omega.{arith}
use lib.ListN.{length, length-append}
use Rattle.drawing.specs.Refusal.{meaning_text, refusal_text}
use Rattle.drawing.specs.Template.{marked}
use Rattle.text.proofs.Chains.{also}
use Rattle.text.specs.Text.{word}
use Rattle.drawing.proofs.put_refusal.Goals as goal

long : (a t b m e z : List ℕ) → length (a ++ t ++ b ++ t ++ m ++ e ++ z) ≡ length a + length t + length b + length t + length m + length e + length z
long a t b m e z = simp length-append

pub returns : goal.returns
unfolding refusal_text word
returns g c =
    let n = c.args.n in
    let p = rw c.from.ensures at c.put_marked.ensures in
    let q = c.put_meaning.ensures in
    let head = also _ _ _ _ (also _ _ _ _ (also _ _ _ _ c.push_word.ensures c.push_word-2.ensures) c.push_word-3.ensures) c.push_word-4.ensures in
    record {
      text = also _ _ _ _ (also _ _ _ _ (also _ _ _ _ head p.text) q.text) c.push_word-5.ensures;
      size = rw (long (word "<svg xmlns='http://www.w3.org/2000/svg' viewBox='0 0 1160 90' font-family='sans-serif'>\n<title>") c.args.title.now
          (word "</title>\n<rect width='100%' height='100%' fill='white'/>\n<text x='20' y='36' font-size='26'>")
          (marked (word "</text>\n<text x='20' y='70' font-size='22'>no #") (n ∷ [])) (meaning_text n) (word "</text>\n</svg>\n")) (omega (arith, p.size, q.size));
    }
