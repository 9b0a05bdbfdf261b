-- Laws of rows of numbers in a buffer. Assumes nothing.
use mathlib.Core.Path.{◌≡◌, refl, sym, ap, ◌∙◌}
use mathlib.Core.List.{List, ◌++◌, append_assoc, append-nil}
use Prim.Native.Nat.{ℕ, ◌+◌, ◌<◌, ◌≤◌}
use native.Mathlib.Nat.{zero-add}
use native.Mathlib.Numerals.{add-one}
use native.Mathlib.Omega.{arith}
use lib.ListN.{length, get_or, set, take, drop, length-append, length-set}
use lib.Dec.{leb}
use lib.Seq.{paste, paste-zero, paste-suc, length-take-le, take-length, take_at, drop-length, drop-drop, drop-append-add}
use borrow.Author.Tests.{le-leb, lt-leb}
use Rattle.getbits.proofs.Chain.{taken, left}
use Rattle.flat.specs.Layout.{over_front}
use Rattle.flat.specs.Rows.{put, PutAt}

module _ {A : Type 0} (before : List A) (at : ℕ) (xs : List A) where
  -- how far a loop that copies xs is after i turns
  pub record Copied (after : List A) (i : ℕ) : Type 0 where
    pub within : i ≤ length xs
    pub stands : after ≡ paste before at xs i
    pub long : length after ≡ length before

  pub begun : Copied before 0
  begun = record { within = omega arith; stands = paste-zero before at xs; long = refl }

  -- a turn
  pub turned : at + length xs ≤ length before → (after : List A) (i : ℕ) (v d : A) → i < length xs → v ≡ get_or xs i d → Copied after i → Copied (set after (at + i) v) (i + 1)
  turned room after i v d h e k =
      record {
        within = omega arith;
        stands =
            ap (λ (l : List A). set l (at + i) v) k.stands
            ∙ ap (set (paste before at xs i) (at + i)) e
            ∙ paste-suc before at xs i d (omega arith) h
            ∙ ap (paste before at xs) (sym (add-one i));
        long = length-set after (at + i) v ∙ k.long;
      }

  -- the end
  pub copied : (after : List A) (i n : ℕ) → length xs ≡ n → n ≤ i → Copied after i → PutAt before at xs n after (at + n)
  unfolding put
  copied after i n count h k =
      let e : i ≡ length xs = omega (arith, k.within) in
      record {
        stands = k.stands ∙ ap (paste before at xs) e ∙ ap (λ (l : List A). take at before ++ l ++ drop (at + length xs) before) (take-length xs);
        count = count;
        next = refl;
        long = k.long;
      }

-- two rows, one behind the other
pub both : {A : Type 0} {o o' o'' : List A} {a a' a'' n m : ℕ} {xs ys : List A} → PutAt o a xs n o' a' → PutAt o' a' ys m o'' a'' → a + n ≤ length o → PutAt o a (xs ++ ys) (n + m) o'' a''
unfolding put
both {A} {o} {o'} {o''} {a} {a'} {a''} {n} {m} {xs} {ys} v w room =
    let p = take a o ++ xs in
    let before : length (take a o) ≡ a = length-take-le a o (omega arith) in
    let long : length p ≡ a' = length-append (take a o) xs ∙ omega (arith, before, v.count, v.next) in
    let front : take a' o' ≡ p = ap (take a') v.stands ∙ take_at p (drop (a + length xs) o) a' long in
    let along : a + length xs + length ys ≡ a + length (xs ++ ys) = omega (arith, length-append xs ys) in
    let rest : drop (a' + length ys) o' ≡ drop (a + length (xs ++ ys)) o =
    ap (λ (k : ℕ). drop (k + length ys) o') (sym long)
    ∙ ap (drop (length p + length ys)) v.stands
    ∙ drop-append-add p (drop (a + length xs) o) (length ys)
    ∙ drop-drop (length ys) (a + length xs) o
    ∙ ap (λ (k : ℕ). drop k o) along in
    record {
      stands = w.stands ∙ rw (front, rest) (ap (λ (l : List A). l ++ drop (a + length (xs ++ ys)) o) (append_assoc (take a o) xs ys));
      count = length-append xs ys ∙ omega (arith, v.count, w.count);
      next = omega (arith, v.next, w.next);
      long = w.long ∙ v.long;
    }

-- a row in front of a buffer
pub fronted : {A : Type 0} {o o' : List A} {n a : ℕ} {xs : List A} → PutAt o 0 xs n o' a → n ≤ length o → o' ≡ over_front n xs o
unfolding put
fronted {A} {o} {o'} {n} {a} {xs} w h =
    let along : 0 + length xs ≡ n = omega (arith, w.count) in
    w.stands
    ∙ ap (λ (k : ℕ). xs ++ drop k o) along
    ∙ sym (taken (leb n (length o)) (xs ++ drop n o) o (le-leb n (length o) h))

-- a buffer that is too short
pub kept : {A : Type 0} (n : ℕ) (xs o : List A) → length o < n → o ≡ over_front n xs o
kept n xs o h = sym (left (leb n (length o)) (xs ++ drop n o) o (lt-leb n (length o) h))

-- a row as long as the buffer
pub put_all : {A : Type 0} (before xs : List A) → length before ≡ length xs → put before 0 xs ≡ xs
unfolding put
put_all before xs e = rw (zero-add (length xs), ← e, drop-length before) (append-nil xs)
