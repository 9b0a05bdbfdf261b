-- What is drawn where there is no layout to draw.
use Rattle.std.specs.Prelude.{List, [], ◌∷◌, ◌++◌, ℕ, eqb}
use Rattle.getbits.specs.Chain.{pick}
use Rattle.text.specs.Text.{word}
use Rattle.drawing.specs.Template.{marked}

-- what the number of a refusal means, in README's words
unfoldable pub meaning_text : ℕ → List ℕ
meaning_text n =
    pick (eqb n 1) (word ": a sequence header's profile, layout, bit depth, reference frames, or the reader's error")
    (pick (eqb n 2) (word ": 64 columns, or then 64 rows, leave superblocks over")
    (pick (eqb n 4) (word ": an argument outside the domain, or a layout that has no rectangles") []))

-- the title, and no with the number and its meaning
unfoldable pub refusal_text : List ℕ → ℕ → List ℕ
refusal_text title n =
    word "<svg xmlns='http://www.w3.org/2000/svg' viewBox='0 0 1160 90' font-family='sans-serif'>\n<title>"
    ++ title
    ++ word "</title>\n<rect width='100%' height='100%' fill='white'/>\n<text x='20' y='36' font-size='26'>"
    ++ title
    ++ marked (word "</text>\n<text x='20' y='70' font-size='22'>no #") (n ∷ [])
    ++ meaning_text n
    ++ word "</text>\n</svg>\n"
