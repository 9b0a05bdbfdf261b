-- What the program rects prints: requests #104 and #105.
use Rattle.std.specs.Prelude.{List, [], ◌∷◌, ◌++◌, ℕ, ◌*◌}
use Rattle.answers.specs.Numbers.{number_of, is_refusal}
use Rattle.answers.specs.declared.Answer.{Answer}
use Rattle.getbits.specs.Chain.{pick, then}
use Rattle.frame_request.specs.Request.{frame_request}
use Rattle.program.specs.Input.{byte_at}
use Rattle.program.specs.Output.{refused_text, either_text}
use Rattle.rectangles.specs.Rectangles.{has_rectangles, rectangle, each}
use Rattle.text.specs.Text.{word, nexts, row, line}
use Rattle.tile_layout.specs.Limits.{unsigned}
use Rattle.tile_layout.specs.declared.TileInfo.{TileInfo}
use Rattle.tile_request.specs.Request.{samples_at, tile_request}

-- ok and the number of tiles; then, row by row and in each row column by column, a tile's left, top, width and height in a line, cut at the
-- edge of a frame of w by h samples. A layout without rectangles is 4
unfoldable pub rectangles_text : TileInfo → ℕ → ℕ → ℕ → List ℕ
rectangles_text t code w h =
    pick (has_rectangles t code w h)
    (line (word "ok" ++ nexts (t.cols * t.rows ∷ [])) ++ (each t.rows λ y. each t.cols λ x. line (row (rectangle t code w h x y))))
    (refused_text 4)

-- what is printed of a reading: its refusal, or the rectangles of its layout
unfoldable pub read_text : Answer → TileInfo → ℕ → ℕ → ℕ → List ℕ
read_text z t code w h = pick (is_refusal z) (refused_text (number_of z)) (rectangles_text t code w h)

-- of what tile reads: the frame's code is the fifth byte of its input, behind the width and the height
unfoldable pub tile_rects_text : List ℕ → List ℕ
tile_rects_text s = then (tile_request s) λ r. read_text r.answer r.info (byte_at s 4) (samples_at s 0) (samples_at s 2)

-- of what frame reads
unfoldable pub frame_rects_text : List ℕ → List ℕ
frame_rects_text s =
    then (frame_request s) λ r. read_text r.answer r.hdr.tiling r.hdr.sb128 (unsigned r.hdr.width) (unsigned r.hdr.height)

-- what is printed of an input
unfoldable pub rects_text : List ℕ → List ℕ
rects_text = either_text tile_rects_text frame_rects_text
