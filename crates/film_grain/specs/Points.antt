-- The point lists of film grain: request #102, in the order of the Rust's parse_film_grain_data.
use Rattle.std.specs.Prelude.{ℕ, ◌+◌, ◌*◌, Bool, true, false, not, ◌&&◌, ◌||◌, List, [], ◌∷◌, ltb, eqb, pos, set, replicate}
use Rattle.getbits.specs.Bits.{get_bits}
use Rattle.getbits.specs.Chain.{pick, then, turns}
use Rattle.getbits.specs.declared.Place.{Place}
use Rattle.seq_fields.specs.Fields.{get_small}
use Rattle.film_grain.specs.declared.PlanePoints.{PlanePoints}

-- the points of a plane: how many, and the position that the last one read has
pub record PointsRead : Type 0 where
  pub refused : Bool
  pub num_points : ℕ
  pub base : ℕ
  pub list : PlanePoints
  pub next : Place

-- the points of the planes
pub record PointLists : Type 0 where
  pub refused : Bool
  pub num_points : List ℕ
  pub points : List PlanePoints
  pub next : Place

-- is a list of n points not empty?
abbrev pub has_points : ℕ → Bool
has_points n = not (eqb n 0)

-- a list of n points of which none is read, or one that is refused: zeros
abbrev pub no_points : ℕ → Bool → Place → PointsRead
no_points n refused p = record { refused = refused; num_points = n; base = 0; list = record { points = replicate 28 0 }; next = p }

-- point i: its position is the one before it and a step; past 255 it is refused right behind the step's bits, else its value follows.
-- Behind a refusal nothing is read
unfoldable pub point : List ℕ → ℕ → ℕ → ℕ → PointsRead → PointsRead
point s index-bits scaling-bits i r =
    pick r.refused r (
    then (get_bits s r.next (pos index-bits)) λ step.
    pick (ltb 255 (r.base + step.value))
    (no_points 0 true step.next) (
    then (get_small s step.next scaling-bits) λ value.
    record {
      refused = false;
      num_points = r.num_points;
      base = r.base + step.value;
      list = record { points = set (set r.list.points (2 * i) (r.base + step.value)) (2 * i + 1) value.value };
      next = value.next;
    }))

-- n points, from position 0
unfoldable pub points_from : List ℕ → Place → ℕ → ℕ → ℕ → PointsRead
points_from s p n index-bits scaling-bits = turns n (point s index-bits scaling-bits) (no_points n false p)

-- the points of a plane: four bits say how many, and more than 14 are refused right behind them; if there are any, three bits and two say the
-- widths of a step and of a value
unfoldable pub plane_points : List ℕ → Place → PointsRead
plane_points s p =
    then (get_small s p 4) λ n.
    pick (ltb 14 n.value) (no_points 0 true n.next) (
    pick (eqb n.value 0) (no_points 0 false n.next) (
    then (get_small s n.next 3) λ index.
    then (get_small s index.next 2) λ scaling.
    points_from s scaling.next n.value (1 + index.value) (5 + scaling.value)))

-- the same under a condition: else no points, and the place as it was
unfoldable pub points_if : Bool → List ℕ → Place → PointsRead
points_if true s p = plane_points s p
points_if false s p = no_points 0 false p

-- the points of luma and, if `chroma`, of both chroma planes; behind a refusal nothing is read
unfoldable pub point_lists : Bool → List ℕ → Place → PointLists
point_lists chroma s p =
    then (points_if true s p) λ y.
    then (points_if (chroma && not y.refused) s y.next) λ u.
    then (points_if (chroma && not (y.refused || u.refused)) s u.next) λ v.
    record {
      refused = y.refused || (u.refused || v.refused);
      num_points = y.num_points ∷ u.num_points ∷ v.num_points ∷ [];
      points = y.list ∷ u.list ∷ v.list ∷ [];
      next = v.next;
    }
