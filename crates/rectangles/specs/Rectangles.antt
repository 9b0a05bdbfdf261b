-- The rectangles of a layout's tiles: document 01, "Tile rectangles"; their order: request #104; their cut at the picture's edge: request #105.
use Rattle.std.specs.Prelude.{Bool, ◌&&◌, List, [], ◌∷◌, ◌++◌, ℕ, zero, suc, ◌+◌, ◌-◌, ◌*◌, min, leb, length, get_or, drop}
use Rattle.answers.specs.declared.Answer.{Answer}
use Rattle.answers.specs.declared.Answer.TheVariants.{Accepted, WrongArguments, ShortBuffer}
use Rattle.getbits.specs.Chain.{pick}
use Rattle.tile_layout.specs.Limits.{is_size, size}
use Rattle.tile_layout.specs.declared.TileInfo.{TileInfo}

-- the first n starts and the closing one never fall, and are at most 1,024
unfoldable pub rising : List ℕ → ℕ → Bool
rising starts zero = leb (get_or starts 0 0) 1024
rising starts (suc n) = rising starts n && (leb (get_or starts n 0) (get_or starts (suc n) 0) && leb (get_or starts (suc n) 0) 1024)

-- a count is 1 to 64
abbrev pub is_count : ℕ → Bool
is_count n = leb 1 n && leb n 64

-- a layout that has rectangles in a frame of w by h samples: its counts, its starts, code at most 2, and w and h 1 to 65,536
unfoldable pub has_rectangles : TileInfo → ℕ → ℕ → ℕ → Bool
has_rectangles t code w h =
    is_count t.cols && is_count t.rows
    && rising t.col_start_sb t.cols && rising t.row_start_sb t.rows
    && leb code 2
    && is_size w && is_size h

-- how many numbers all tiles take, four a tile
abbrev pub rectangle_numbers : TileInfo → ℕ
rectangle_numbers t = 4 * (t.cols * t.rows)

-- where start i along one direction stands in samples, cut at the frame's edge
abbrev pub edge : List ℕ → ℕ → ℕ → ℕ → ℕ
edge starts side most i = min (get_or starts i 0 * side) most

-- how far tile i reaches: from its own start to the next, both cut
abbrev pub reach : List ℕ → ℕ → ℕ → ℕ → ℕ
reach starts side most i = edge starts side most (i + 1) - edge starts side most i

-- left, top, width and height of the tile in a column and a row
abbrev pub rectangle : TileInfo → ℕ → ℕ → ℕ → ℕ → ℕ → List ℕ
rectangle t code w h col row =
    edge t.col_start_sb (size code) w col
    ∷ edge t.row_start_sb (size code) h row
    ∷ reach t.col_start_sb (size code) w col
    ∷ reach t.row_start_sb (size code) h row
    ∷ []

-- f 0, f 1, .. f (n - 1), one behind the other
unfoldable pub each : {A : Type 0} → ℕ → (ℕ → List A) → List A
each zero f = []
each (suc n) f = each n f ++ f n

-- all tiles, row by row from the top, and in each row column by column from the left
unfoldable pub rectangles : TileInfo → ℕ → ℕ → ℕ → List ℕ
rectangles t code w h = each t.rows λ row. each t.cols λ col. rectangle t code w h col row

-- the answer, and the buffer after it: the numbers of all tiles, and behind them what was there.
-- Are the layout, its code, the width and the height as described? No: 4. Has the buffer four numbers a tile? No: 5. Refused, the buffer is as it was
unfoldable pub tile_rectangles : TileInfo → ℕ → ℕ → ℕ → List ℕ → Answer × List ℕ
tile_rectangles t code w h out =
    pick (has_rectangles t code w h)
    (pick (leb (rectangle_numbers t) (length out)) (Accepted, rectangles t code w h ++ drop (rectangle_numbers t) out) (ShortBuffer, out))
    (WrongArguments, out)
