-- Laws of the comparison. Assumes nothing.
use mathlib.Core.Bool.{Bool, true, false, ◌&&◌, ◌||◌, and-false, or-true, false≢true}
use mathlib.Core.List.{List, [], ◌∷◌}
use mathlib.Core.Logic.{◌⊎◌, inl, inr, ⊎_elim}
use mathlib.Core.Path.{◌≡◌, refl, sym, ap, ◌∙◌}
use Prim.Native.Nat.{ℕ, zero, suc, ◌-◌, ◌^◌, ◌≤◌, ◌<◌}
use native.Mathlib.Nat.{lt_of_lt_of_le, not-suc-le-zero}
use native.Mathlib.Omega.{arith}
use borrow.Author.Tests.{eqb-true, eqb-false, eq-eqb, ne_eqb, le-leb, lt-leb}
use lib.Dec.{eqb, lit≤}
use lib.IntN.{ℤ, pos, negsuc}
use lib.ListN.{length, take, get_or}
use mir.Syntax.{w32, w64}
use mir.Val.{Fits, SFits, of_z}
use Rattle.std.specs.List.{list_all, zip}
use Rattle.getbits.specs.Bits.{signed_of}
use Rattle.verdicts.specs.Rows.{eq_z, stands, all_same, agreeing, Stands, AllSame, Tells}

-- two numbers are equal where two others are, so the tests say the same
same_test : (a b c d : ℕ) → (a ≡ b → c ≡ d) → (c ≡ d → a ≡ b) → eqb a b ≡ eqb c d
same_test a b c d f g = go (eqb a b) refl
  where
    go : (t : Bool) → eqb a b ≡ t → eqb a b ≡ eqb c d
    go true h = h ∙ sym (eq-eqb c d (f (eqb-true a b h)))
    go false h = h ∙ sym (ne_eqb c d (λ e. eqb-false a b h (g e)))

-- signed numbers are compared by their bits
pub by_bits : (x y : ℤ) → SFits w64 x → SFits w64 y → eqb (of_z w64 x) (of_z w64 y) ≡ eq_z x y
by_bits (pos a) (pos b) h k = refl
by_bits (pos a) (negsuc b) h k = ne_eqb a (2 ^ 64 - suc b) (λ e. omega (arith, h.sfits, k.sfits))
by_bits (negsuc a) (pos b) h k = ne_eqb (2 ^ 64 - suc a) b (λ e. omega (arith, h.sfits, k.sfits))
by_bits (negsuc a) (negsuc b) h k =
    same_test (2 ^ 64 - suc a) (2 ^ 64 - suc b) a b (λ e. omega (arith, h.sfits, k.sfits)) (λ e. omega (arith, h.sfits, k.sfits))

-- a stored number of 32 bits is taken as it is or as y, which is what it means as a signed one
pub either_way : (x y : ℤ) (n : ℕ) → SFits w64 x → SFits w64 y → Fits w32 n → y ≡ signed_of 32 n
    → (eqb (of_z w64 x) n || eqb (of_z w64 x) (of_z w64 y)) ≡ stands x n
unfolding stands
either_way x y n h k f e =
    rw (by_bits x (pos n) h (record { sfits = lt_of_lt_of_le f.fits (lit≤ tt) }), by_bits x y h k) (rw e)

-- rows that differ in length are not the same
pub other_count : (xs : List ℤ) (ns : List ℕ) → (length xs ≡ length ns → ⊥) → false ≡ all_same xs ns
unfolding all_same
other_count [] [] h = absurd (h refl)
other_count [] (n ∷ ns) h = refl
other_count (x ∷ xs) [] h = refl
other_count (x ∷ xs) (n ∷ ns) h = rw (← other_count xs ns (λ e. h (ap suc e))) (sym (and-false (stands x n)))

-- two rows of one length, number by number
pub one_by_one : (xs : List ℤ) (ns : List ℕ) → length xs ≡ length ns → list_all (λ (p : ℤ × ℕ). stands p.0 p.1) (zip xs ns) ≡ all_same xs ns
unfolding all_same
one_by_one [] [] h = refl
one_by_one [] (n ∷ ns) h = absurd (omega arith)
one_by_one (x ∷ xs) [] h = absurd (omega arith)
one_by_one (x ∷ xs) (n ∷ ns) h = ap (λ (t : Bool). stands x n && t) (one_by_one xs ns (omega arith))

-- a test of two whole numbers, and of two questions
equal : (x y : ℤ) → eq_z x y ≡ true → x ≡ y
equal (pos a) (pos b) h = ap pos (eqb-true a b h)
equal (negsuc a) (negsuc b) h = ap negsuc (eqb-true a b h)
equal (pos a) (negsuc b) h = absurd (false≢true h)
equal (negsuc a) (pos b) h = absurd (false≢true h)

itself : (x : ℤ) → eq_z x x ≡ true
itself (pos a) = eq-eqb a a refl
itself (negsuc a) = eq-eqb a a refl

is_equal : (x y : ℤ) → x ≡ y → eq_z x y ≡ true
is_equal x y e = rw e (itself y)

one_of : (a b : Bool) → (a || b) ≡ true → (a ≡ true) ⊎ (b ≡ true)
one_of true b h = inl refl
one_of false b h = inr h

both : (a b : Bool) → (a && b) ≡ true → (a ≡ true) × (b ≡ true)
both true b h = (refl, h)
both false b h = absurd (false≢true h)

stands_sound : (x : ℤ) (n : ℕ) → stands x n ≡ true → Stands x n
unfolding stands
stands_sound x n h =
    ⊎_elim (λ e. inl (equal x (pos n) e)) (λ e. inr (equal x (signed_of 32 n) e)) (one_of (eq_z x (pos n)) (eq_z x (signed_of 32 n)) h)

stands_whole : (x : ℤ) (n : ℕ) → Stands x n → stands x n ≡ true
unfolding stands
stands_whole x n h =
    ⊎_elim (λ e. ap (λ (t : Bool). t || eq_z x (signed_of 32 n)) (is_equal x (pos n) e))
    (λ e. ap (λ (t : Bool). eq_z x (pos n) || t) (is_equal x (signed_of 32 n) e) ∙ or-true (eq_z x (pos n)))
    h

pub rows_sound : (xs : List ℤ) (ns : List ℕ) → all_same xs ns ≡ true → AllSame xs ns
unfolding all_same
rows_sound [] [] h = record { count = refl; each = λ i k. absurd (not-suc-le-zero k) }
rows_sound [] (n ∷ ns) h = absurd (false≢true h)
rows_sound (x ∷ xs) [] h = absurd (false≢true h)
rows_sound (x ∷ xs) (n ∷ ns) h =
    let b = both (stands x n) (all_same xs ns) h in
    let rest = rows_sound xs ns b.1 in
    record { count = ap suc rest.count; each = next rest (stands_sound x n b.0) }
  where
    next : AllSame xs ns → Stands x n → (i : ℕ) → i < suc (length xs) → Stands (get_or (x ∷ xs) i (pos 0)) (get_or (n ∷ ns) i 0)
    next rest s zero k = s
    next rest s (suc i) k = rest.each i (omega arith)

pub rows_whole : (xs : List ℤ) (ns : List ℕ) → AllSame xs ns → all_same xs ns ≡ true
unfolding all_same
rows_whole [] [] h = refl
rows_whole [] (n ∷ ns) h = let z : ◌≡◌ {A = ℕ} 0 (suc (length ns)) = h.count in absurd (omega arith)
rows_whole (x ∷ xs) [] h = let z : ◌≡◌ {A = ℕ} (suc (length xs)) 0 = h.count in absurd (omega arith)
rows_whole (x ∷ xs) (n ∷ ns) h =
    let z : ◌≡◌ {A = ℕ} (suc (length xs)) (suc (length ns)) = h.count in
    rw (stands_whole x n (h.each 0 (omega arith)))
    (rows_whole xs ns (record { count = omega arith; each = λ i k. h.each (suc i) (omega arith) }))

-- the test tells whether the rows are the same
pub told : (xs : List ℤ) (ns : List ℕ) (r : Bool) → r ≡ all_same xs ns → Tells r (AllSame xs ns)
told xs ns r e = record { sound = λ h. rows_sound xs ns (sym e ∙ h); whole = λ h. e ∙ rows_whole xs ns h }

-- what agrees, with enough numbers on both sides and with too few on one
module _ (xs : List ℤ) (n : ℕ) (ns : List ℕ) (m : ℕ) where
  pub enough : n ≤ length xs → m ≤ length ns → all_same (take n xs) (take m ns) ≡ agreeing xs n ns m
  unfolding agreeing
  enough h k = rw (le-leb n (length xs) h, le-leb m (length ns) k)

  pub few_stored : n ≤ length xs → length ns < m → false ≡ agreeing xs n ns m
  unfolding agreeing
  few_stored h k = rw (le-leb n (length xs) h, lt-leb m (length ns) k)

  pub few_ours : length xs < n → false ≡ agreeing xs n ns m
  unfolding agreeing
  few_ours h = rw (lt-leb n (length xs) h)
