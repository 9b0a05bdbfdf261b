-- What is printed of the empty input and of a first byte of 2, computed. Assumes nothing.
use mathlib.Core.List.{[], ◌∷◌, ◌++◌}
use mathlib.Core.Path.{◌≡◌, refl}
use Rattle.drawing.specs.Refusal.{meaning_text, refusal_text}
use Rattle.drawing.specs.Template.{integers}
use Rattle.text.specs.Text.{word, decimal, decimal_in, signed, filled}
use Rattle.draw.specs.Print.{chosen_draw_text, draw_text}

nothing :
    draw_text []
    ≡ word "<svg xmlns='http://www.w3.org/2000/svg' viewBox='0 0 1160 90' font-family='sans-serif'>\n<title>no first byte of 0 or 1</title>\n"
    ++ word "<rect width='100%' height='100%' fill='white'/>\n<text x='20' y='36' font-size='26'>no first byte of 0 or 1</text>\n"
    ++ word "<text x='20' y='70' font-size='22'>no 4: an argument outside the domain, or a layout that has no rectangles</text>\n</svg>\n"
unfolding word decimal decimal_in signed filled integers meaning_text refusal_text draw_text
nothing = refl

another : draw_text (2 ∷ []) ≡ draw_text []
unfolding chosen_draw_text draw_text
another = refl
