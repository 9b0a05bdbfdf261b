-- A reading is accepted, or it is refused with 7 and the zero record. Assumes nothing.
use mathlib.Core.List.{List}
use mathlib.Core.Logic.{◌⊎◌, inl, inr}
use mathlib.Core.Path.{◌≡◌, refl}
use Prim.Native.Nat.{ℕ}
use Rattle.answers.specs.declared.Answer.TheVariants.{Accepted}
use Rattle.getbits.specs.declared.Place.{Place}
use Rattle.seq_fields.specs.declared.PixelLayout.{PixelLayout}
use Rattle.film_grain.specs.Grain.{refused_grain, parse_film_grain_data}
use Rattle.film_grain.specs.declared.FilmGrainRead.{FilmGrainRead}
use Rattle.film_grain.proofs.Answers.{of_answers}

pub record Outcome (r : FilmGrainRead) : Type 0 where
  pub is : (r.answer ≡ Accepted) ⊎ (r ≡ refused_grain r.next)

pub grain_outcome : (s : List ℕ) (p : Place) (layout : PixelLayout) → Outcome (parse_film_grain_data s p layout)
grain_outcome s p layout = of_answers Outcome (λ q. record { is = inr refl }) s p layout (λ chroma q l e f r a. record { is = inl a.accepted })
