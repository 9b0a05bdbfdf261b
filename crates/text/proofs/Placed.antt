-- The laws of what is put at a place of a lent buffer. Assumes nothing.
use mathlib.Core.List.{List, [], ◌∷◌, ◌++◌}
use mathlib.Core.Logic.{⊎_elim}
use mathlib.Core.Path.{◌≡◌, refl, sym, ap, ◌∙◌}
use Prim.Native.Nat.{ℕ, suc, ◌+◌, ◌≤◌}
use native.Mathlib.Omega.{arith}
use Rattle.getbits.proofs.Places.{lt_or_le}
use Rattle.getbits.proofs.Stores.{sets_append}
use lib.ListN.{length, length-append}
use lib.Seq.{sets, set_out, length-sets}
use Rattle.text.specs.Text.{put}
use Rattle.text.specs.Put.{behind, Put}
use Rattle.text.proofs.Puts.{put_fits}

-- bytes past the end are dropped
pub sets_out : (l : List ℕ) (i : ℕ) (vs : List ℕ) → length l ≤ i → sets l i vs ≡ l
sets_out l i [] h = refl
sets_out l i (v ∷ vs) h = rw (set_out l i v h) (sets_out l (suc i) vs (omega arith))

-- nothing is put
pub none : (l : List ℕ) (i : ℕ) → Put 0 l i [] l i
unfolding behind
none l i = record { text = refl; place = omega arith; size = omega arith }

-- the buffer keeps its length
pub kept : {m : ℕ} {l : List ℕ} {i : ℕ} {a : List ℕ} {l1 : List ℕ} {j : ℕ} → Put m l i a l1 j → length l1 ≡ length l
kept {m} {l} {i} {a} p = ap length p.text ∙ length-sets l i a

-- where a does not fit, what is put behind it is dropped
rest : {m : ℕ} {l : List ℕ} {i : ℕ} {a : List ℕ} {l1 : List ℕ} {j : ℕ} → Put m l i a l1 j → (b : List ℕ) → sets l1 j b ≡ sets l1 (i + length a) b
unfolding behind
rest {m} {l} {i} {a} {l1} {j} p b =
    let same = kept p in
    ⊎_elim (λ h. sets_out l1 j b (omega arith) ∙ sym (sets_out l1 (i + length a) b (omega arith)))
    (λ h. ap (λ (x : ℕ). sets l1 x b) (omega arith))
    (lt_or_le (length l) (i + length a))

-- what is put behind a is put behind it at a's place
pub after : {m : ℕ} {l : List ℕ} {i : ℕ} {a : List ℕ} {l1 : List ℕ} {j : ℕ} → Put m l i a l1 j → (b : List ℕ) → sets l1 j b ≡ sets l i (a ++ b)
after {l = l} {i = i} {a = a} p b = rest p b ∙ ap (λ (x : List ℕ). sets x (i + length a) b) p.text ∙ sym (sets_append l i a b)

pub after_place : {m : ℕ} {l : List ℕ} {i : ℕ} {a : List ℕ} {l1 : List ℕ} {j : ℕ} → Put m l i a l1 j → (b : List ℕ) → behind j (length b) (length l1) ≡ behind i (length (a ++ b)) (length l)
unfolding behind
after_place {a = a} p b = omega (arith, kept p, p.place, length-append a b)

-- a after which b is put is a ++ b
pub also : {m n : ℕ} {l : List ℕ} {i : ℕ} {a : List ℕ} {l1 : List ℕ} {j : ℕ} {b : List ℕ} {l2 : List ℕ} {k : ℕ} → Put m l i a l1 j → Put n l1 j b l2 k → Put (m + n) l i (a ++ b) l2 k
also {a = a} {b = b} p q = record { text = q.text ∙ after p b; place = q.place ∙ after_place p b; size = omega (arith, length-append a b, p.size, q.size) }

-- a larger bound
pub within : {m n : ℕ} {l : List ℕ} {i : ℕ} {a : List ℕ} {l1 : List ℕ} {j : ℕ} → m ≤ n → Put m l i a l1 j → Put n l i a l1 j
within h p = record { text = p.text; place = p.place; size = omega arith }

-- what was put into a new text that has room for it, and from there into a buffer
pub printed : {m n : ℕ} {l : List ℕ} {i : ℕ} {a new text bytes : List ℕ} {l1 : List ℕ} {j : ℕ} → new ≡ [] → text ≡ put m new a → length a ≤ m → bytes ≡ text → Put n l i bytes l1 j → Put m l i a l1 j
printed {m} {n} {l} {i} {a} {new} {text} {bytes} {l1} {j} none is fits same p =
    let all : bytes ≡ a = same ∙ is ∙ ap (λ (t : List ℕ). put m t a) none ∙ put_fits m a fits in
    let q : Put n l i a l1 j = rw all at p in
    record { text = q.text; place = q.place; size = fits }
