-- What the exported tile_rectangles leaves.
use Rattle.std.specs.Prelude.{ℕ, List}
use Rattle.answers.specs.Numbers.{number_of}
use Rattle.answers.specs.declared.Answer.TheVariants.{ShortBuffer}
use Rattle.getbits.specs.Chain.{pick, then}
use Rattle.rectangles.specs.Rectangles.{tile_rectangles}
use Rattle.flat.specs.Layout.{Buffers, has_room, layout_in}

-- tile_rectangles over the buffers of a layout, in a frame of w by h samples
unfoldable pub lent_rectangles : Buffers → ℕ → ℕ → ℕ → List ℕ → ℕ × List ℕ
lent_rectangles b code w h out =
    pick (has_room b)
    (then (tile_rectangles (layout_in b) code w h out) λ r.
    (number_of r.0, r.1))
    (number_of ShortBuffer, out)
