-- What holds of every answer of a reading: of a refusal, and of an accepted record, which has the lists that were read. Assumes nothing.
use mathlib.Core.Bool.{Bool, true, false, not, ◌&&◌, ◌||◌}
use mathlib.Core.List.{List}
use mathlib.Core.Path.{◌≡◌, refl}
use Prim.Native.Nat.{ℕ}
use Rattle.answers.specs.declared.Answer.TheVariants.{Accepted}
use Rattle.getbits.specs.Chain.{pick, then}
use Rattle.getbits.specs.declared.Place.{Place}
use Rattle.getbits.proofs.Chain.{contrary, picked}
use Rattle.seq_fields.specs.declared.PixelLayout.{PixelLayout}
use Rattle.film_grain.specs.Grain.{refused_grain, one_list_empty, grain_fields, parse_film_grain_data}
use Rattle.film_grain.specs.Points.{PointLists, point_lists}
use Rattle.film_grain.specs.declared.FilmGrainRead.{FilmGrainRead}

pub neither : (a b : Bool) → a || b ≡ false → (a ≡ false) × (b ≡ false)
neither true b e = contrary refl e
neither false b e = (refl, e)

-- what holds of whatever a step gives holds behind it
kept : {A B : Type 0} (P : B → Type 0) (a : A) (f : A → B) → ((x : A) → P (f x)) → P (then a f)
unfolding then
kept P a f h = h a

-- a record that is accepted behind the lists l
pub record AcceptedWith (l : PointLists) (r : FilmGrainRead) : Type 0 where
  pub accepted : r.answer ≡ Accepted
  pub num_points : r.fgd.num_points ≡ l.num_points
  pub points : r.fgd.points ≡ l.points

module _ (P : FilmGrainRead → Type 0) (refused : (q : Place) → P (refused_grain q)) where
  fields : (from-luma : Bool) (s : List ℕ) (l : PointLists) → ((r : FilmGrainRead) → AcceptedWith l r → P r) → P (grain_fields from-luma s l)
  unfolding grain_fields
  fields from-luma s l h =
      kept P _ _ λ scaling.
      kept P _ _ λ lag.
      kept P _ _ λ coeffs.
      kept P _ _ λ shift.
      kept P _ _ λ scale.
      kept P _ _ λ uv.
      kept P _ _ λ overlap.
      kept P _ _ λ clip.
      kept P _ _ λ identity.
      kept P _ _ λ block.
      picked P block.next.error (refused_grain block.next) _ (λ _. refused block.next) (λ _. h _ (record { accepted = refl; num_points = refl; points = refl }))

  behind_lists : (chroma : Bool) (s : List ℕ) (p : Place) (layout : PixelLayout) (from-luma : Bool)
      → ((l : PointLists) → l ≡ point_lists chroma s p → l.refused ≡ false → (r : FilmGrainRead) → AcceptedWith l r → P r)
      → P (then (point_lists chroma s p) λ l. pick (l.refused || one_list_empty layout l.num_points) (refused_grain l.next) (grain_fields from-luma s l))
  unfolding then
  behind_lists chroma s p layout from-luma h =
      let l = point_lists chroma s p in
      picked P (l.refused || one_list_empty layout l.num_points) _ _
      (λ _. refused l.next)
      (λ e. fields from-luma s l (h l refl (neither l.refused _ e).0))

  pub of_answers : (s : List ℕ) (p : Place) (layout : PixelLayout)
      → ((chroma : Bool) (q : Place) (l : PointLists) → l ≡ point_lists chroma s q → l.refused ≡ false → (r : FilmGrainRead) → AcceptedWith l r → P r)
      → P (parse_film_grain_data s p layout)
  unfolding parse_film_grain_data
  of_answers s p layout h =
      kept P _ _ λ chroma.
      kept P _ _ λ from-luma.
      behind_lists (chroma && not from-luma.value) s from-luma.next layout from-luma.value (h (chroma && not from-luma.value) from-luma.next)
