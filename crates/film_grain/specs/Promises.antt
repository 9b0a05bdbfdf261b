-- What request #102 says of every point list.
use Rattle.std.specs.Prelude.{◌≡◌, [], ℕ, ◌+◌, ◌*◌, ◌<◌, ◌≤◌, get_or}
use Rattle.film_grain.specs.declared.FilmGrainData.{FilmGrainData}
use Rattle.film_grain.specs.declared.PlanePoints.{PlanePoints}

-- the position and the value of point i
abbrev pub position_at : PlanePoints → ℕ → ℕ
position_at list i = get_or list.points (2 * i) 0

abbrev pub value_at : PlanePoints → ℕ → ℕ
value_at list i = get_or list.points (2 * i + 1) 0

-- a list of n points
pub record PointList (n : ℕ) (list : PlanePoints) : Type 0 where
  -- at most 14 points
  pub few : n ≤ 14
  -- positions never fall
  pub rising : (i : ℕ) → i + 1 < n → position_at list i ≤ position_at list (i + 1)
  -- none passes 255
  pub small : (i : ℕ) → i < n → position_at list i ≤ 255
  -- behind the points stand zeros
  pub zeros : (i : ℕ) → n ≤ i → (position_at list i ≡ 0) × (value_at list i ≡ 0)

-- the number of points of plane pl, and the list
abbrev pub num_points : FilmGrainData → ℕ → ℕ
num_points fgd pl = get_or fgd.num_points pl 0

abbrev pub points_of : FilmGrainData → ℕ → PlanePoints
points_of fgd pl = get_or fgd.points pl (record { points = [] })

-- the three point lists of a record: luma, and both chroma planes
pub record GrainLists (fgd : FilmGrainData) : Type 0 where
  pub luma : PointList (num_points fgd 0) (points_of fgd 0)
  pub chroma_u : PointList (num_points fgd 1) (points_of fgd 1)
  pub chroma_v : PointList (num_points fgd 2) (points_of fgd 2)
