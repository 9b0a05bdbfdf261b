-- What request #102 says of every point list holds of the definition. Assumes nothing.
use mathlib.Core.Bool.{Bool, true, false, not, ◌&&◌, ◌||◌}
use mathlib.Core.List.{List}
use mathlib.Core.Logic.{⊎_elim}
use mathlib.Core.Path.{◌≡◌, refl, sym, ap, subst, ◌∙◌}
use Prim.Native.Nat.{ℕ, zero, suc, ◌+◌, ◌*◌, ◌<◌, ◌≤◌}
use native.Mathlib.Numerals.{add-one}
use native.Mathlib.Omega.{arith}
use borrow.Author.Tests.{ltb-false}
use lib.Dec.{ltb, eqb}
use lib.IntN.{pos}
use lib.ListN.{length, get_or, set, replicate, length-set}
use lib.Seq.{get_or-set_same, get_or-set_other}
use Rattle.getbits.specs.Bits.{get_bits}
use Rattle.getbits.specs.Chain.{then, turns}
use Rattle.getbits.specs.declared.Place.{Place}
use Rattle.getbits.proofs.Chain.{contrary, picked}
use Rattle.getbits.proofs.Places.{lt_or_le}
use Rattle.getbits.proofs.Stores.{zeros_at}
use Rattle.seq_fields.specs.Fields.{get_small}
use Rattle.seq_fields.specs.declared.PixelLayout.{PixelLayout}
use Rattle.film_grain.specs.Grain.{parse_film_grain_data}
use Rattle.film_grain.specs.Points.{PointLists, PointsRead, no_points, point, points_from, plane_points, points_if, point_lists}
use Rattle.film_grain.specs.Promises.{position_at, value_at, PointList, GrainLists}
use Rattle.film_grain.specs.declared.FilmGrainRead.{FilmGrainRead}
use Rattle.film_grain.specs.declared.PlanePoints.{PlanePoints}
use Rattle.film_grain.proofs.Answers.{neither, AcceptedWith, of_answers}

empty : PointList 0 (record { points = replicate 28 0 })
empty =
    record {
      few = omega arith;
      rising = λ i h. absurd (omega arith);
      small = λ i h. absurd (omega arith);
      zeros = λ i h. (zeros_at 28 (2 * i), zeros_at 28 (2 * i + 1));
    }

-- i points are read, and the last has the position base
record Rows (i base : ℕ) (list : PlanePoints) : Type 0 where
  pub long : length list.points ≡ 28
  pub top : base ≤ 255
  pub last : (j : ℕ) → j < i → position_at list j ≤ base
  pub rising : (j : ℕ) → j + 1 < i → position_at list j ≤ position_at list (j + 1)
  pub zeros : (j : ℕ) → i ≤ j → (position_at list j ≡ 0) × (value_at list j ≡ 0)

none : Rows 0 0 (record { points = replicate 28 0 })
none =
    record {
      long = refl;
      top = omega arith;
      last = λ j h. absurd (omega arith);
      rising = λ j h. absurd (omega arith);
      zeros = λ j h. (zeros_at 28 (2 * j), zeros_at 28 (2 * j + 1));
    }

-- a list with point i put
abbrev added : ℕ → ℕ → ℕ → PlanePoints → PlanePoints
added i next value list = record { points = set (set list.points (2 * i) next) (2 * i + 1) value }

-- one more, at a position that is not below the last
module _ (i base next value : ℕ) (list : PlanePoints) (r : Rows i base list) (room : i < 14) (up : base ≤ next) (top : next ≤ 255) where
  inner : length (set list.points (2 * i) next) ≡ 28
  inner = length-set list.points (2 * i) next ∙ r.long

  other : (k : ℕ) → (k ≡ 2 * i → ⊥) → (k ≡ 2 * i + 1 → ⊥) → get_or (added i next value list).points k 0 ≡ get_or list.points k 0
  other k a b = get_or-set_other (set list.points (2 * i) next) (2 * i + 1) k value 0 b ∙ get_or-set_other list.points (2 * i) k next 0 a

  here : position_at (added i next value list) i ≡ next
  here =
      get_or-set_other (set list.points (2 * i) next) (2 * i + 1) (2 * i) value 0 (λ e. omega arith)
      ∙ get_or-set_same list.points (2 * i) next 0 (omega (arith, r.long))

  before : (j : ℕ) → j < i → position_at (added i next value list) j ≡ position_at list j
  before j h = other (2 * j) (λ e. omega arith) (λ e. omega arith)

  one_more : Rows (i + 1) next (added i next value list)
  one_more =
      record {
        long = length-set (set list.points (2 * i) next) (2 * i + 1) value ∙ inner;
        top = top;
        last = λ j h. ⊎_elim (λ l. omega (arith, before j l, r.last j l)) (λ (l : i ≤ j). let e : j ≡ i = omega arith in rw e (omega (arith, here))) (lt_or_le j i);
        rising = λ j h.
            ⊎_elim
            (λ l. omega (arith, before j (omega arith), before (j + 1) l, r.rising j l))
            (λ l. let e : j + 1 ≡ i = omega arith in rw e (omega (arith, before j (omega arith), here, r.last j (omega arith))))
            (lt_or_le (j + 1) i);
        zeros = λ j h.
            let k = r.zeros j (omega arith) in
            (other (2 * j) (λ e. omega arith) (λ e. omega arith) ∙ k.0, other (2 * j + 1) (λ e. omega arith) (λ e. omega arith) ∙ k.1);
      }

-- unless it is refused
abbrev Reads : ℕ → ℕ → PointsRead → Type 0
Reads n i r = r.refused ≡ false → (r.num_points ≡ n) × Rows i r.base r.list

a_point : (s : List ℕ) (index-bits scaling-bits n i : ℕ) (r : PointsRead) → i < 14 → Reads n i r → Reads n (i + 1) (point s index-bits scaling-bits i r)
unfolding point then
a_point s index-bits scaling-bits n i r room k =
    let step = get_bits s r.next (pos index-bits) in
    let next = r.base + step.value in
    let value = get_small s step.next scaling-bits in
    picked (Reads n (i + 1)) r.refused r _
    (λ e f. contrary e f)
    (λ e.
    picked (Reads n (i + 1)) (ltb 255 next)
    (no_points 0 true step.next)
    (record { refused = false; num_points = r.num_points; base = next; list = added i next value.value r.list; next = value.next })
    (λ over f. contrary refl f)
    (λ under _. ((k e).0, one_more i r.base next value.value r.list (k e).1 room (omega arith) (ltb-false 255 next under))))

points : (s : List ℕ) (p : Place) (index-bits scaling-bits n i : ℕ) → i ≤ 14 → Reads n i (turns i (point s index-bits scaling-bits) (no_points n false p))
unfolding turns
points s p index-bits scaling-bits n zero h = λ _. (refl, none)
points s p index-bits scaling-bits n (suc i) h =
    rw (add-one i) at
    (a_point s index-bits scaling-bits n i (turns i (point s index-bits scaling-bits) (no_points n false p)) (omega arith)
    (points s p index-bits scaling-bits n i (omega arith)))

-- a list that is not refused is what the request says
abbrev Good : PointsRead → Type 0
Good r = r.refused ≡ false → PointList r.num_points r.list

all_points : (s : List ℕ) (p : Place) (n index-bits scaling-bits : ℕ) → n ≤ 14 → Good (points_from s p n index-bits scaling-bits)
unfolding points_from
all_points s p n index-bits scaling-bits h f =
    let k = points s p index-bits scaling-bits n n h f in
    let r = k.1 in
    rw k.0
    (record {
      few = h;
      rising = r.rising;
      small = λ i l. omega (arith, r.last i l, r.top);
      zeros = r.zeros;
    })

plane : (s : List ℕ) (p : Place) → Good (plane_points s p)
unfolding plane_points then
plane s p =
    let n = get_small s p 4 in
    picked Good (ltb 14 n.value) _ _
    (λ _ f. contrary refl f)
    (λ under. picked Good (eqb n.value 0) _ _ (λ _ _. empty) (λ _. all_points _ _ _ _ _ (ltb-false 14 n.value under)))

plane_if : (t : Bool) (s : List ℕ) (p : Place) → Good (points_if t s p)
unfolding points_if
plane_if true s p = plane s p
plane_if false s p = λ _. empty

-- the three lists that are read, if none is refused
module _ (chroma : Bool) (s : List ℕ) (p : Place) (whole : (point_lists chroma s p).refused ≡ false) where
  three : (r : FilmGrainRead) → AcceptedWith (point_lists chroma s p) r → GrainLists r.fgd
  unfolding point_lists then
  three r a =
      let y = points_if true s p in
      let u = points_if (chroma && not y.refused) s y.next in
      let v = points_if (chroma && not (y.refused || u.refused)) s u.next in
      let k = neither y.refused (u.refused || v.refused) whole in
      let l = neither u.refused v.refused k.1 in
      record {
        luma = rw (a.num_points, a.points) (plane_if true s p k.0);
        chroma_u = rw (a.num_points, a.points) (plane_if (chroma && not y.refused) s y.next l.0);
        chroma_v = rw (a.num_points, a.points) (plane_if (chroma && not (y.refused || u.refused)) s u.next l.1);
      }

-- the point lists of every reading are what the request says
pub grain_lists : (s : List ℕ) (p : Place) (layout : PixelLayout) → GrainLists (parse_film_grain_data s p layout).fgd
grain_lists s p layout =
    of_answers (λ (r : FilmGrainRead). GrainLists r.fgd) (λ q. record { luma = empty; chroma_u = empty; chroma_v = empty }) s p layout
    (λ chroma q l e f r a. three chroma s q (sym (ap (λ (x : PointLists). x.refused) e) ∙ f) r (subst (λ (x : PointLists). AcceptedWith x r) e a))
