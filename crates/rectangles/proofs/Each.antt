-- Lists of one length that stand one behind the other. Assumes nothing.
use mathlib.Core.Logic.{⊎_elim}
use mathlib.Core.Path.{◌≡◌, refl, sym, ap, ◌∙◌}
use mathlib.Core.List.{List, ◌++◌, append_assoc, append-nil}
use Prim.Native.Nat.{ℕ, zero, suc, ◌+◌, ◌*◌, ◌<◌}
use native.Mathlib.Nat.{add-zero, add-suc, zero-mul, suc-mul, mul-zero, mul-suc, mul-add, mul-le-mul_left}
use native.Mathlib.Numerals.{add-one}
use native.Mathlib.Omega.{arith}
use lib.ListN.{length, get_or, length-append, get_or-append}
use lib.Seq.{sets, get_or-append-add}
use Rattle.getbits.proofs.Places.{lt_or_le}
use Rattle.getbits.proofs.Stores.{sets_append}
use Rattle.rectangles.specs.Rectangles.{each}

module _ {A : Type 0} (f : ℕ → List A) where
  -- one list more
  pub each_more : (n : ℕ) → each n f ++ f n ≡ each (n + 1) f
  unfolding each
  each_more n = rw (add-one n) refl

  module _ (m : ℕ) (h : (i : ℕ) → length (f i) ≡ m) where
    -- n of them, m long each
    pub each_length : (n : ℕ) → length (each n f) ≡ m * n
    unfolding each
    each_length zero = sym (mul-zero m)
    each_length (suc n) = length-append (each n f) (f n) ∙ omega (arith, each_length n, h n, mul-suc m n)

    -- element j of list i
    pub each_at : (n i j : ℕ) (d : A) → i < n → j < m → get_or (each n f) (m * i + j) d ≡ get_or (f i) j d
    unfolding each
    each_at zero i j d l k = absurd (omega arith)
    each_at (suc n) i j d l k =
        ⊎_elim
        (λ b. get_or-append (each n f) (f n) d (m * i + j) (omega (arith, each_length n, mul-le-mul_left {m = i + 1} {n = n} m (omega arith), mul-add m i 1)) ∙ each_at n i j d b k)
        (λ b.
        let e : i ≡ n = omega arith in
        ap (λ (x : ℕ). get_or (each n f ++ f n) (x + j) d) (ap (λ (x : ℕ). m * x) e ∙ sym (each_length n))
        ∙ get_or-append-add (each n f) (f n) j d
        ∙ ap (λ (x : ℕ). get_or (f x) j d) (sym e))
        (lt_or_le i n)

-- the same lists
pub each_same : {A : Type 0} (f g : ℕ → List A) (n : ℕ) → ((i : ℕ) → i < n → f i ≡ g i) → each n f ≡ each n g
unfolding each
each_same f g zero h = refl
each_same f g (suc n) h = rw (each_same f g n (λ i l. h i (omega arith)), h n (omega arith)) refl

-- n lists, and m behind them
each_add : {A : Type 0} (f : ℕ → List A) (n m : ℕ) → each (n + m) f ≡ each n f ++ each m (λ i. f (n + i))
unfolding each
each_add f n zero = rw (add-zero n) (sym (append-nil (each n f)))
each_add f n (suc m) = rw (add-suc n m, each_add f n m) (append_assoc (each n f) (each m (λ i. f (n + i))) (f (n + m)))

-- n times m lists
pub each_each : {A : Type 0} (f : ℕ → List A) (n m : ℕ) → each (n * m) f ≡ each n (λ i. each m (λ j. f (i * m + j)))
unfolding each
each_each f zero m = rw (zero-mul m) refl
each_each f (suc n) m = rw (suc-mul n m, each_add f (n * m) m, each_each f n m) refl

-- a list more is stored behind n that are stored
pub store_more : (f : ℕ → List ℕ) (m : ℕ) → ((i : ℕ) → length (f i) ≡ m) → (n at next : ℕ) (before out after : List ℕ)
    → next ≡ at + m * n → out ≡ sets before at (each n f) → after ≡ sets out next (f n) → after ≡ sets before at (each (n + 1) f)
store_more f m h n at next before out after k e g = rw (g, e, k, sym (each_more f n), sets_append before at (each n f) (f n), each_length f m h n) refl
