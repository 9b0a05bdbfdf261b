-- The laws of what is put. Assumes nothing.
use mathlib.Core.List.{List, [], ◌∷◌, ◌++◌, append_assoc, append-nil}
use mathlib.Core.Path.{◌≡◌, refl, sym, ap, ◌∙◌}
use Prim.Native.Nat.{ℕ, zero, suc, ◌+◌, ◌-◌, ◌<◌, ◌≤◌}
use native.Mathlib.Numerals.{unary_clauses}
use native.Mathlib.Omega.{arith}
use lib.ListN.{length, take, set, length-append}
use lib.Seq.{take_all, take-nil}
use Rattle.std.proofs.lemmas.Grind.{common_steps}
use Rattle.std.proofs.lemmas.List.{take_more_set, length-take-le}
use Rattle.text.specs.Text.{put}

-- what has no room is dropped
take_take : (k : ℕ) (a b : List ℕ) → take k a ++ take (k - length (take k a)) b ≡ take k (a ++ b)
take_take zero a b = refl
take_take (suc k) [] b = simp unary_clauses
take_take (suc k) (x ∷ a) b = simp unary_clauses (ap (λ (l : List ℕ). x ∷ l) (take_take k a b))

-- a after which b is put is a ++ b
pub put-put : (n : ℕ) (t a b : List ℕ) → put n (put n t a) b ≡ put n t (a ++ b)
unfolding put
put-put n t a b =
    let k : n - length (t ++ take (n - length t) a) ≡ (n - length t) - length (take (n - length t) a) = omega (arith, length-append t (take (n - length t) a)) in
    rw k (append_assoc t _ _ ∙ ap (λ (l : List ℕ). t ++ l) (take_take (n - length t) a b))

pub put-nil : (n : ℕ) (t : List ℕ) → put n t [] ≡ t
unfolding put
put-nil n t = grind (arith, common_steps)

-- a text that fits is what stands there
pub put_fits : (n : ℕ) (a : List ℕ) → length a ≤ n → put n [] a ≡ a
unfolding put
put_fits n a h = simp unary_clauses (take_all n a h)

-- a byte that has room
pub put_byte : (n i : ℕ) (bytes : List ℕ) (b : ℕ) → length bytes ≡ n → i < n → take (i + 1) (set bytes i b) ≡ put n (take i bytes) (b ∷ [])
unfolding put
put_byte n i bytes b h l =
    let k : n - length (take i bytes) ≡ suc (n - i - 1) = omega (arith, length-take-le i bytes (omega arith)) in
    rw (k, take_more_set bytes i b (omega arith)) (ap (λ (l : List ℕ). take i bytes ++ (b ∷ l)) (sym (take-nil (n - i - 1))))

-- a text with no room
pub put_full : (n : ℕ) (t bytes : List ℕ) → n ≤ length t → put n t bytes ≡ t
unfolding put
put_full n t bytes h = let k : n - length t ≡ 0 = omega arith in rw k (append-nil t)

pub ruleset puts = (put-put, put-nil)
