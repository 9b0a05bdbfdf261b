-- Laws of the counts. Assumes nothing.
use mathlib.Core.List.{List, map}
use mathlib.Core.Path.{◌≡◌, refl, sym, ap, ◌∙◌}
use mathlib.Core.Bool.{Bool, true, false}
use Prim.Native.Nat.{ℕ, ◌+◌, min, ◌<◌, ◌≤◌}
use native.Mathlib.Omega.{arith}
use borrow.Author.Tests.{lt-ltb, le-ltb}
use lib.Dec.{ltb}
use lib.ListN.{length, get_or, set, length-map, get_or-map}
use lib.Seq.{set_out, map-set_same}
use mathlib.Core.Logic.{⊎_elim}
use Rattle.std.proofs.lemmas.List.{map-set, set-get_or}
use Rattle.getbits.proofs.Places.{lt_or_le}
use Rattle.verdicts.specs.declared.Count.{Count}
use Rattle.verdicts.specs.Counts.{one_more}
use Rattle.getbits.specs.Chain.{pick}

module _ (counts : List ℕ) (i : ℕ) where
  -- one more, where a count has 32 bits
  pub more : {n : ℕ} → n ≡ get_or counts i 0 → n < 4294967296 → set counts i (min (n + 1) 4294967295) ≡ one_more counts i
  unfolding one_more
  more {n} e h =
      ⊎_elim (λ l. rw (lt-ltb (get_or counts i 0) 4294967295 (omega (arith, e, l))) (ap (set counts i) (omega (arith, e, l))))
      (λ l. rw (le-ltb (get_or counts i 0) 4294967295 (omega (arith, e, l))) (ap (set counts i) (omega (arith, e, l, h)) ∙ set-get_or counts i 0))
      (lt_or_le n 4294967295)

  pub more_behind : length counts ≤ i → counts ≡ one_more counts i
  unfolding one_more
  more_behind h = go (ltb (get_or counts i 0) 4294967295)
    where
      go : (t : Bool) → counts ≡ pick t (set counts i (get_or counts i 0 + 1)) counts
      go true = sym (set_out counts i (get_or counts i 0 + 1) h)
      go false = refl

-- a field of the counts, where one of them is replaced
module _ (f : Count → ℕ) (counts : List Count) (i : ℕ) (d r : Count) (zero : f d ≡ 0) where
  pub more_if : (t : Bool) → f r ≡ pick t (min (f (get_or counts i d) + 1) 4294967295) (f (get_or counts i d)) → f (get_or counts i d) < 4294967296
      → map f (set counts i r) ≡ pick t (one_more (map f counts) i) (map f counts)
  more_if true e h =
      let there : f (get_or counts i d) ≡ get_or (map f counts) i 0 = rw zero at (sym (get_or-map f counts i d)) in
      map-set f counts i r ∙ ap (set (map f counts) i) e ∙ more (map f counts) i there h
  more_if false e h = map-set_same f counts i r d e

  pub none_if : (t : Bool) → length counts ≤ i → map f counts ≡ pick t (one_more (map f counts) i) (map f counts)
  none_if true h = more_behind (map f counts) i (rw (length-map counts f) h)
  none_if false h = refl
