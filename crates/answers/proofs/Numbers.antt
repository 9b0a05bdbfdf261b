-- Accepted is 0, and no refusal is. Assumes nothing.
use mathlib.Core.Bool.{true, false}
use mathlib.Core.Path.{◌≡◌, refl, subst}
use native.Mathlib.Omega.{arith}
use lib.Dec.{T}
use Rattle.answers.specs.Numbers.{number_of, is_refusal}
use Rattle.answers.specs.declared.Answer.{Answer}
use Rattle.answers.specs.declared.Answer.TheVariants.{Accepted, InvalidSequenceHeader, InvalidTileInfo}
use Rattle.answers.specs.declared.Answer.TheVariants.{InvalidTrailingBits, WrongArguments, ShortBuffer, TooManyTiles, InvalidFilmGrainData, NoSuchLayout}

pub accepted_0 : (z : Answer) → is_refusal z ≡ false → 0 ≡ number_of z
accepted_0 Accepted h = refl
accepted_0 InvalidSequenceHeader h = absurd (subst T h tt)
accepted_0 InvalidTileInfo h = absurd (subst T h tt)
accepted_0 InvalidTrailingBits h = absurd (subst T h tt)
accepted_0 WrongArguments h = absurd (subst T h tt)
accepted_0 ShortBuffer h = absurd (subst T h tt)
accepted_0 TooManyTiles h = absurd (subst T h tt)
accepted_0 InvalidFilmGrainData h = absurd (subst T h tt)
accepted_0 NoSuchLayout h = absurd (subst T h tt)

pub accepted_by_0 : (z : Answer) → number_of z ≡ 0 → is_refusal z ≡ false
accepted_by_0 Accepted h = refl
accepted_by_0 InvalidSequenceHeader h = absurd (omega arith)
accepted_by_0 InvalidTileInfo h = absurd (omega arith)
accepted_by_0 InvalidTrailingBits h = absurd (omega arith)
accepted_by_0 WrongArguments h = absurd (omega arith)
accepted_by_0 ShortBuffer h = absurd (omega arith)
accepted_by_0 TooManyTiles h = absurd (omega arith)
accepted_by_0 InvalidFilmGrainData h = absurd (omega arith)
accepted_by_0 NoSuchLayout h = absurd (omega arith)

pub refused_unless_0 : (z : Answer) → (number_of z ≡ 0 → ⊥) → is_refusal z ≡ true
refused_unless_0 Accepted h = absurd (h refl)
refused_unless_0 InvalidSequenceHeader h = refl
refused_unless_0 InvalidTileInfo h = refl
refused_unless_0 InvalidTrailingBits h = refl
refused_unless_0 WrongArguments h = refl
refused_unless_0 ShortBuffer h = refl
refused_unless_0 TooManyTiles h = refl
refused_unless_0 InvalidFilmGrainData h = refl
refused_unless_0 NoSuchLayout h = refl
