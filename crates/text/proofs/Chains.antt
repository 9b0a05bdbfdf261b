-- Texts put one after the other, step by step: for long words, that a tactic does not read. Assumes nothing.
use mathlib.Core.List.{List, ◌++◌}
use mathlib.Core.Path.{◌≡◌, ap, ◌∙◌}
use Prim.Native.Nat.{ℕ, ◌+◌, ◌≤◌}
use native.Mathlib.Omega.{arith}
use lib.ListN.{length, length-append}
use Rattle.text.specs.Text.{put}
use Rattle.text.proofs.Puts.{put-put}

pub also : (n : ℕ) (l a b : List ℕ) {l1 l2 : List ℕ} → l1 ≡ put n l a → l2 ≡ put n l1 b → l2 ≡ put n l (a ++ b)
also n l a b p q = q ∙ ap (λ (t : List ℕ). put n t b) p ∙ put-put n l a b

pub sizes : (a b : List ℕ) {m n : ℕ} → length a ≤ m → length b ≤ n → length (a ++ b) ≤ m + n
sizes a b p q = omega (arith, length-append a b)
