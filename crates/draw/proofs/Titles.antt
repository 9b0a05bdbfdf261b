-- What stands in a text that was empty. Assumes nothing.
use mathlib.Core.List.{List, [], ◌++◌}
use mathlib.Core.Path.{◌≡◌, ap, ◌∙◌}
use Prim.Native.Nat.{ℕ, ◌≤◌}
use native.Mathlib.Omega.{arith}
use lib.ListN.{length}
use Rattle.text.proofs.Chains.{also, sizes}
use Rattle.text.proofs.Puts.{put_fits}
use Rattle.text.specs.Text.{put}

-- what is put into an empty text with room for it
pub printed : (n : ℕ) (a t t1 : List ℕ) → t ≡ [] → t1 ≡ put n t a → length a ≤ n → t1 ≡ a
printed n a t t1 e p m = p ∙ ap (λ (x : List ℕ). put n x a) e ∙ put_fits n a m

-- a title of two parts
pub titled : (a b t t1 t2 s : List ℕ) → t ≡ [] → t1 ≡ put 205 t a → t2 ≡ put 205 t1 b → s ≡ t2 → length a ≤ 147 → length b ≤ 58 → s ≡ a ++ b
titled a b t t1 t2 s e p q r m n = r ∙ also 205 t a b p q ∙ ap (λ (x : List ℕ). put 205 x (a ++ b)) e ∙ put_fits 205 (a ++ b) (omega (arith, sizes a b m n))
