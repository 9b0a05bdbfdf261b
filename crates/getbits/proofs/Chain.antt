-- The laws that follow the code through a definition: `through` past a step, `taken` and `left` past a question, `turns_more` round a loop.
-- A proof that r is such a definition's value is  sym (through _ _ e₀ ∙ left _ _ _ e₁ ∙ ..)  with the code's facts e₀, e₁, .. in order.
use Prim.Native.Nat.{ℕ, ◌+◌}
use native.Mathlib.Numerals.{add-one}
use mathlib.Core.Path.{◌≡◌, refl, ap, sym, subst, ◌∙◌}
use mathlib.Core.Bool.{Bool, true, false, ◌&&◌}
use lib.Dec.{T}
use Rattle.getbits.specs.Chain.{pick, then, turns}

pub through : {A B : Type 0} (a : A) (f : A → B) {r : A} → r ≡ a → then a f ≡ f r
unfolding then
through a f e = ap f (sym e)

pub taken : {A : Type 0} (t : Bool) (a b : A) → t ≡ true → pick t a b ≡ a
taken t a b e = rw e

pub left : {A : Type 0} (t : Bool) (a b : A) → t ≡ false → pick t a b ≡ b
left t a b e = rw e

-- a test that holds and does not
pub contrary : {A : Type 0} {a : Bool} → a ≡ true → a ≡ false → A
contrary h k = absurd (subst T (sym h ∙ k) tt)

-- two tests that both hold
pub both : (a b : Bool) → a && b ≡ true → (a ≡ true) × (b ≡ true)
both true b h = (refl, h)
both false b h = contrary h refl

pub both_hold : {a b : Bool} → a ≡ true → b ≡ true → a && b ≡ true
both_hold h k = rw (h, k)

-- what holds of both answers holds of the one picked
pub picked : {A : Type 0} (P : A → Type 0) (t : Bool) (a b : A) → (t ≡ true → P a) → (t ≡ false → P b) → P (pick t a b)
picked P true a b f g = f refl
picked P false a b f g = g refl

pub turns_none : {A : Type 0} (f : ℕ → A → A) (a : A) → turns 0 f a ≡ a
unfolding turns
turns_none f a = refl

pub turns_more : {A : Type 0} (n : ℕ) (f : ℕ → A → A) (a : A) → turns (n + 1) f a ≡ f n (turns n f a)
unfolding turns
turns_more n f a = rw add-one
