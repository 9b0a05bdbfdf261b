-- What a call hands back, put together from the facts of its steps. Assumes nothing.
use Rattle.std.proofs.Common.{◌≡◌, ℕ, Bool, true, false, ◌&&◌, [], ◌∷◌, refl}
use Rattle.answers.specs.Numbers.{number_of}
use Rattle.answers.specs.declared.Answer.{Answer}
use Rattle.getbits.specs.declared.Place.{Place}
use Rattle.lent.specs.Calls.{answered}
use Rattle.lent.specs.Lent.{lent_place}

-- the row of an answer and a place
pub row : (z : Answer) (p : Place) (error : ℕ) {n x e : ℕ} → n ≡ number_of z → (x ∷ e ∷ []) ≡ lent_place p error → (n ∷ x ∷ e ∷ []) ≡ answered z p error
row z p error number place = cc

pub pair : {A B : Type 0} {a a' : A} {b b' : B} → a ≡ a' → b ≡ b' → ◌≡◌ {A = A × B} (a, b) (a', b')
pair e f = rw (e, f)

pub triple : {A B C : Type 0} {a a' : A} {b b' : B} {c c' : C} → a ≡ a' → b ≡ b' → c ≡ c' → ◌≡◌ {A = A × B × C} (a, b, c) (a', b', c')
triple e f g = rw (e, f, g)

-- one of two tests fails
pub first_fails : (a b : Bool) → a ≡ false → a && b ≡ false
first_fails a b h = rw h

pub second_fails : (a b : Bool) → b ≡ false → a && b ≡ false
second_fails true b h = h
second_fails false b h = refl
