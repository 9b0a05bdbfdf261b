-- What request #102 says of every point list, over the numbers that a call leaves.
use Rattle.std.specs.Prelude.{List, ℤ}
use Rattle.film_grain.specs.Promises.{PointList}
use Rattle.flat_grain.specs.Grain.{num_points_in, points_in}

-- the three point lists
pub record ListsLeft (xs : List ℤ) : Type 0 where
  pub luma : PointList (num_points_in xs 0) (points_in xs 0)
  pub chroma_u : PointList (num_points_in xs 1) (points_in xs 1)
  pub chroma_v : PointList (num_points_in xs 2) (points_in xs 2)
