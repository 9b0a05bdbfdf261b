-- How the definitions of readings are put together, in the reading order.
use Rattle.std.specs.Prelude.{ℕ, zero, suc, Bool, true, false}

-- a question: a where the test holds, else b
abbrev pub pick : {A : Type 0} → Bool → A → A → A
pick true a b = a
pick false a b = b

-- a step: the value a has a name in what follows, `then a λ x. ..`
unfoldable pub then : {A B : Type 0} → A → (A → B) → B
then a f = f a

-- a loop: a, changed by f 0, f 1, .. f (n - 1) in turn
unfoldable pub turns : {A : Type 0} → ℕ → (ℕ → A → A) → A → A
turns zero f a = a
turns (suc n) f a = f n (turns n f a)
