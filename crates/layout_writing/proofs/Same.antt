-- What the questions about two records decide. Assumes nothing.
use mathlib.Core.Bool.{Bool, true, false, not, ◌&&◌}
use mathlib.Core.List.{List, [], ◌∷◌}
use mathlib.Core.Path.{◌≡◌, refl, sym, subst, ap, ap₂}
use Prim.Native.Nat.{ℕ}
use borrow.Author.Tests.{eqb-true, eq-eqb, not-true}
use lib.Dec.{T, eqb}
use Rattle.answers.specs.Numbers.{is_refusal}
use Rattle.getbits.proofs.Chain.{both, both_hold}
use Rattle.tile_layout.specs.declared.TileInfo.{TileInfo}
use Rattle.tile_layout.specs.declared.TileRead.{TileRead}
use Rattle.layout_bits.specs.LayoutCode.{Clean}
use Rattle.layout_writing.specs.Write.{same_flag, same_list, same_numbers, same_layout, reads_as}

pub not_so : (a : Bool) → (a ≡ true → ⊥) → a ≡ false
not_so true f = absurd (f refl)
not_so false f = refl

flag_only : (a b : Bool) → same_flag a b ≡ true → a ≡ b
flag_only true b h = sym h
flag_only false true h = h
flag_only false false h = refl

flag_self : (a : Bool) → same_flag a a ≡ true
flag_self true = refl
flag_self false = refl

pub list_only : (xs ys : List ℕ) → same_list xs ys ≡ true → xs ≡ ys
unfolding same_list
list_only [] [] h = refl
list_only [] (y ∷ ys) h = absurd (subst T (sym h) tt)
list_only (x ∷ xs) [] h = absurd (subst T (sym h) tt)
list_only (x ∷ xs) (y ∷ ys) h = let p = both (eqb x y) (same_list xs ys) h in ap₂ (λ (z : ℕ) (zs : List ℕ). z ∷ zs) (eqb-true x y p.0) (list_only xs ys p.1)

list_self : (xs : List ℕ) → same_list xs xs ≡ true
unfolding same_list
list_self [] = refl
list_self (x ∷ xs) = both_hold (eq-eqb x x refl) (list_self xs)

layout_self : (t : TileInfo) → same_layout t t ≡ true
unfolding same_numbers same_layout
layout_self t =
    let num : (n : ℕ) → eqb n n ≡ true = λ n. eq-eqb n n refl in
    both_hold (both_hold (both_hold (flag_self t.uniform)
    (both_hold (both_hold (both_hold (both_hold (both_hold (both_hold (both_hold
    (num t.min_log2_cols)
    (num t.max_log2_cols))
    (num t.log2_cols))
    (num t.cols))
    (num t.min_log2_rows))
    (num t.max_log2_rows))
    (num t.log2_rows))
    (num t.rows)))
    (list_self _))
    (list_self _)

-- two records are the same exactly when all their fields are
module _ (t u : TileInfo) where
  pub layout_only : same_layout t u ≡ true → t ≡ u
  unfolding same_numbers same_layout
  layout_only h =
      let rows-list = both _ _ h in
      let cols-list = both _ _ rows-list.0 in
      let numbers = both _ _ cols-list.0 in
      let rows = both _ _ numbers.1 in
      let log-rows = both _ _ rows.0 in
      let max_rows = both _ _ log-rows.0 in
      let min_rows = both _ _ max_rows.0 in
      let cols = both _ _ min_rows.0 in
      let log-cols = both _ _ cols.0 in
      let max_cols = both _ _ log-cols.0 in
      λ i.
      record {
        uniform = flag_only t.uniform u.uniform numbers.0 i;
        min_log2_cols = eqb-true t.min_log2_cols u.min_log2_cols max_cols.0 i;
        max_log2_cols = eqb-true t.max_log2_cols u.max_log2_cols max_cols.1 i;
        log2_cols = eqb-true t.log2_cols u.log2_cols log-cols.1 i;
        cols = eqb-true t.cols u.cols cols.1 i;
        min_log2_rows = eqb-true t.min_log2_rows u.min_log2_rows min_rows.1 i;
        max_log2_rows = eqb-true t.max_log2_rows u.max_log2_rows max_rows.1 i;
        log2_rows = eqb-true t.log2_rows u.log2_rows log-rows.1 i;
        rows = eqb-true t.rows u.rows rows.1 i;
        col_start_sb = list_only t.col_start_sb u.col_start_sb cols-list.1 i;
        row_start_sb = list_only t.row_start_sb u.row_start_sb rows-list.1 i;
      }

  pub layout_same : t ≡ u → same_layout t u ≡ true
  layout_same e = rw (← e) (layout_self t)

-- a reading that is accepted without error and gives t
module _ (r : TileRead) (t : TileInfo) where
  pub reads_only : reads_as r t ≡ true → Clean r × (r.info ≡ t)
  unfolding reads_as
  reads_only h =
      let p = both (not (is_refusal r.answer) && not r.next.error) (same_layout r.info t) h in
      let q = both (not (is_refusal r.answer)) (not r.next.error) p.0 in
      (record { accepted = not-true _ q.0; unset = not-true _ q.1 }, layout_only r.info t p.1)

  pub reads_same : Clean r → r.info ≡ t → reads_as r t ≡ true
  unfolding reads_as
  reads_same c e = both_hold (both_hold (ap not c.accepted) (ap not c.unset)) (layout_same r.info t e)
