-- What a call leaves, put together from the facts of its steps. Assumes nothing.
use mathlib.Core.List.{List, ◌++◌}
use mathlib.Core.Logic.{⊎_elim}
use mathlib.Core.Path.{◌≡◌, refl, ap, ◌∙◌}
use Prim.Native.Nat.{ℕ, ◌≤◌}
use native.Mathlib.Omega.{arith}
use borrow.Author.Tests.{le-leb}
use lib.IntN.{ℤ, pos}
use lib.ListN.{length, drop, replicate}
use Rattle.answers.specs.Numbers.{number_of}
use Rattle.getbits.proofs.Chain.{taken}
use Rattle.film_grain.specs.Grain.{no_film_grain}
use Rattle.film_grain.specs.Promises.{GrainLists}
use Rattle.film_grain.specs.declared.FilmGrainRead.{FilmGrainRead}
use Rattle.film_grain.proofs.Refused.{Outcome}
use Rattle.flat.specs.Layout.{over_front}
use Rattle.flat_grain.specs.Grain.{flat_film_grain, HasLists}
use Rattle.capi_grain.specs.Promises.{ListsLeft}

-- the zero record
zeros : flat_film_grain no_film_grain ≡ replicate 186 (pos 0)
unfolding flat_film_grain
zeros = refl

module _ (x : FilmGrainRead) (n : ℕ) (number : n ≡ number_of x.answer) (outcome : Outcome x) where
  -- the answer is 0 or 7
  pub never : (k : ℕ) → (k ≡ 0 → ⊥) → (k ≡ 7 → ⊥) → n ≡ k → ⊥
  never k not-0 not-7 e =
      ⊎_elim (λ a. not-0 (omega (arith, e, number, ap number_of a))) (λ r. not-7 (omega (arith, e, number, ap (λ (z : FilmGrainRead). number_of z.answer) r))) outcome.is

  -- refused, the zero record is left
  pub zeros_left : (before after : List ℤ) → 186 ≤ length before → after ≡ over_front 186 (flat_film_grain x.fgd) before → n ≡ 7 → after ≡ replicate 186 (pos 0) ++ drop 186 before
  zeros_left before after room put e =
      ⊎_elim
      (λ a. absurd (omega (arith, e, number, ap number_of a)))
      (λ r.
      put
      ∙ taken _ _ _ (le-leb 186 (length before) room)
      ∙ ap (λ (z : FilmGrainRead). flat_film_grain z.fgd ++ drop 186 before) r
      ∙ ap (λ (l : List ℤ). l ++ drop 186 before) zeros)
      outcome.is

-- the point lists that are left
pub lists_left : (x : FilmGrainRead) (xs : List ℤ) → HasLists xs x.fgd → GrainLists x.fgd → ListsLeft xs
lists_left x xs h g =
    record {
      luma = rw (h.count 0 (omega arith), h.list 0 (omega arith)) g.luma;
      chroma_u = rw (h.count 1 (omega arith), h.list 1 (omega arith)) g.chroma_u;
      chroma_v = rw (h.count 2 (omega arith), h.list 2 (omega arith)) g.chroma_v;
    }
